-- What the messages of both parts hold is what those of the whole do.
use Rattle.std.proofs.Common.{◌+◌, ◌-◌, ◌/◌, sym, subst}
use Rattle.std.proofs.lemmas.Result.{IfOk-at_ok}
use Rattle.waff_assign.specs.Parts.{IsPart}
use Rattle.waff_assign.proofs.Assignments.{part_more}
use Rattle.waff_assign.proofs.gathering.+gathering.Goals as goal

pub returns : goal.returns
returns g t c =
    let layout = c.args.layout.now in
    let locks = c.args.locks.now in
    let messages = c.args.trace.now.messages in
    let before = c.args.before in
    let end = c.args.end in
    let middle = before + (end - before) / 2 in
    let front : IsPart layout locks messages before middle c.in_ok-both.both
    = IfOk-at_ok (IsPart layout locks messages before middle) c.in_ok-both.was c.join-first.ensures.first in
    let back : IsPart layout locks messages middle end c.in_ok-second.field-0
    = IfOk-at_ok (IsPart layout locks messages middle end) c.in_ok-second.was c.join-first.ensures.second in
    subst (IsPart layout locks messages before end) (sym c.in_ok-append.ensures)
    (part_more layout locks messages before middle end c.in_ok-both.both c.in_ok-second.field-0 front back)

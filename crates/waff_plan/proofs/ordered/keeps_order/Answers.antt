-- By number the pairs are those of the order.
use Rattle.std.proofs.Common.{◌↔◌, IsTrue, None, subst, sym}
use Rattle.std.proofs.lemmas.Result.{IfOk-weaker}
use Rattle.waff_plan.specs.ByStart.{walk_of}
use Rattle.waff_plan.specs.Keeps.{KeepsPairs}
use Rattle.waff_plan.specs.Planned.{planned_starts, planned_work}
use Rattle.waff_plan.proofs.Sequences.{numbered_messages, order_kept, pairs_kept}
use Rattle.waff_plan.proofs.ordered.keeps_order.Goals as goal

pub keeps-requires : goal.keeps-requires
keeps-requires c = record { sequence = numbered_messages (planned_work c.args.planned.now).count }

pub returns : goal.returns
returns c =
    let planned = c.args.planned.now in
    let tree = planned.case.tree.now in
    let assigned = planned.case.assigned.now in
    let work = planned_work planned in
    let start = planned_starts planned in
    let same = sym planned.lengths in
    IfOk-weaker c.keeps.result _ _
    (λ kept told.
    let by = subst (λ n. IsTrue kept ↔ KeepsPairs tree assigned work start (walk_of work.count None) (record { from = 1; to = c.args.count; last = n })) c.len.ensures.count told in
    (λ t. order_kept tree assigned work start c.args.count same (by.0 t), λ order. by.1 (pairs_kept tree assigned work start c.args.count same order)))
    c.keeps.ensures

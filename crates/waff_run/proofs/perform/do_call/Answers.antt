use Rattle.std.proofs.Common.{◌+◌, ◌*◌, ◌<◌, rules, arith}
use Rattle.waff_run.specs.Asked.{AsksOp, AsksParts, no_part}
use Rattle.waff_run.proofs.Asking.{goes_nowhere, goes_on, parts_more}
use Rattle.waff_run.proofs.perform.do_call.Goals as goal

pub loop-done-init : goal.loop-done-init
loop-done-init g c = (omega arith, goes_nowhere (AsksParts c.args.places.now c.args.ops.now c.args.from 0) no_part (g.S.Store.log c.args.hand.now))

pub loop-done-preserved : goal.loop-done-preserved
loop-done-preserved g c =
    let placing = c.args.places.now in
    let ops = c.args.ops.now in
    let done = c.loop-done.done in
    let part = c.min-part.result in
    let some : 0 < part = search rules in (
      search rules,
      goes_on (AsksParts placing ops c.args.from done) (AsksOp placing (placing.bytes * part) c.get.result) (AsksParts placing ops c.args.from (done + part))
          (parts_more placing ops c.args.from done part c.get.result c.get.ensures some) (g.S.Store.log c.args.hand.now) (g.S.Store.log c.loop-done.hand)
          (g.S.Store.log c.do_part.new.hand) c.loop-done.invariant.1 c.in_ok-do_part.ensures,
    )

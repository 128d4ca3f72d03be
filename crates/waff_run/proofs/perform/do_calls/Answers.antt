use Rattle.std.proofs.Common.{◌+◌, arith}
use Rattle.waff_run.specs.Asked.{AsksCalls, AsksParts, no_call}
use Rattle.waff_run.proofs.Asking.{calls_more, goes_nowhere, goes_on}
use Rattle.waff_run.proofs.perform.do_calls.Goals as goal

pub loop-at-init : goal.loop-at-init
loop-at-init g c = (omega arith, goes_nowhere (AsksCalls c.args.places.now c.args.ops.now 0) no_call (g.S.Store.log c.args.hand.now))

pub loop-at-preserved : goal.loop-at-preserved
loop-at-preserved g c =
    let placing = c.args.places.now in
    let ops = c.args.ops.now in
    let at = c.loop-at.at in
    let count = c.call_length-count.result in (
      c.call_length-count.ensures.within,
      goes_on (AsksCalls placing ops at) (AsksParts placing ops at count) (AsksCalls placing ops (at + count))
          (calls_more placing ops at count c.call_length-count.ensures) (g.S.Store.log c.args.hand.now) (g.S.Store.log c.loop-at.hand)
          (g.S.Store.log c.do_call.new.hand) c.loop-at.invariant.1 c.in_ok-do_call.ensures,
    )

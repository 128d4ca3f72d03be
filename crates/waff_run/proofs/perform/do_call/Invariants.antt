use Rattle.std.proofs.Common.{◌-◌, ◌≤◌}
use Rattle.waff_run.specs.Asked.{AsksParts, GoesOn}
use Rattle.waff_run.proofs.perform.do_call.Given as goal

abbrev pub invariant-loop-done : goal.invariant-loop-done
invariant-loop-done g l =
    (l.done ≤ l.count) × GoesOn (g.S.Store.log l.initial.hand) (g.S.Store.log l.hand) (AsksParts l.places l.ops l.from l.done)

abbrev pub decreases-loop-done : goal.decreases-loop-done
decreases-loop-done g l = l.count - l.done

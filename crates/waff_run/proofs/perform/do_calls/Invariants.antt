use Rattle.std.proofs.Common.{◌-◌, ◌≤◌, length}
use Rattle.waff_run.specs.Asked.{AsksCalls, GoesOn}
use Rattle.waff_run.proofs.perform.do_calls.Given as goal

abbrev pub invariant-loop-at : goal.invariant-loop-at
invariant-loop-at g l =
    (l.at ≤ length l.ops) × GoesOn (g.S.Store.log l.initial.hand) (g.S.Store.log l.hand) (AsksCalls l.places l.ops l.at)

abbrev pub decreases-loop-at : goal.decreases-loop-at
decreases-loop-at g l = length l.ops - l.at

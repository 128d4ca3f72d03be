use Rattle.std.proofs.Common.{◌≡◌, length}
use Rattle.waff_run.specs.Asked.{AsksBack, GoesOn}
use Rattle.waff_run.proofs.perform.write_back.Given as goal

abbrev pub invariant-loop-at : goal.invariant-loop-at
invariant-loop-at g l =
    (length l.bytes ≡ length l.initial.bytes)
    × GoesOn (g.S.Store.log l.initial.hand) (g.S.Store.log l.hand) (AsksBack (length l.initial.bytes) l.spots l.at)

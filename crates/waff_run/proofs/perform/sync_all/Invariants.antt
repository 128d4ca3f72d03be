use Rattle.std.proofs.Common.{◌≡◌, map, take}
use Rattle.waff_run.specs.Asked.{GoesOn, was_synced}
use Rattle.waff_run.proofs.perform.sync_all.Given as goal

abbrev pub invariant-loop-at : goal.invariant-loop-at
invariant-loop-at g l = GoesOn (g.S.Store.log l.initial.hand) (g.S.Store.log l.hand) (λ asked. asked ≡ map was_synced (take l.at l.files))

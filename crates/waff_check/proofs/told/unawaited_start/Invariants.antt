use Rattle.std.proofs.Common.{ℕ, ◌<◌}
use Rattle.waff_check.specs.Searches.{planned_held}
use Rattle.waff_check.proofs.told.unawaited_start.Given as goal

abbrev pub invariant-loop-n : goal.invariant-loop-n
invariant-loop-n l = (m i : ℕ) → m < l.n → planned_held l.planned m i → ⊥

use Rattle.std.proofs.Common.{◌≡◌, ◌<◌, ℕ, false}
use Rattle.waff_read.proofs.LevelLemmas.{third_at}
use Rattle.waff_read.proofs.hierarchy.third_level.Given as goal

abbrev pub invariant-loop-number : goal.invariant-loop-number
invariant-loop-number l = (k : ℕ) → k < l.number → third_at l.tree k ≡ false

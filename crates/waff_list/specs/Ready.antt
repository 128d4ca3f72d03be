-- The messages that are taken out of those that are ready.
use Rattle.std.specs.Prelude.{◌≡◌, ℕ, ◌<◌, ◌≤◌, ◌⊎◌, List, ◌++◌, length, Contains}
use Rattle.std.specs.List.Sorted.{IsPermutation}
use Rattle.waff_waits.specs.Ready.{AreRanked, ranked_in}

-- message m is taken before the other, or is the other
abbrev pub IsTakenNoLater : (ℕ → ℕ) → (ℕ → ℕ) → ℕ → ℕ → Type 0
IsTakenNoLater priority key m other = (priority other < priority m)
    ⊎ ((priority m ≡ priority other) × ((key m < key other)
    ⊎ ((key m ≡ key other) × (m ≤ other))))

-- of those that were ready these messages have been taken out, so many at most; none
-- that is left is taken before one of them
pub record AreGathered (old : List (ℕ × (ℕ × ℕ))) (most : ℕ) (messages : List ℕ)
    (ranks : List (ℕ × (ℕ × ℕ))) : Type 0 where
  pub parted : IsPermutation (ranked_in old) (messages ++ ranked_in ranks)
  pub within : length messages ≤ most
  pub ranked : (priority key : ℕ → ℕ) → AreRanked priority key old
      → AreRanked priority key ranks
  pub first : (priority key : ℕ → ℕ) → AreRanked priority key old → (m other : ℕ)
      → Contains messages m → Contains (ranked_in ranks) other
      → IsTakenNoLater priority key m other

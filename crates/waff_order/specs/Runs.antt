-- The messages that are gathered at the places of a message: of each place those that are taken, or the latest above.
use Rattle.std.specs.Prelude.{ℕ, zero, suc, ◌≤◌, ◌↔◌, List, [], ◌∷◌, length, Contains}
use Rattle.std.specs.List.Sorted.{IsStrictlyIncreasing}

-- the messages that are taken, in rising order
pub record AreGathered (taken gathered : List ℕ) : Type 0 where
  pub each : (i : ℕ) → Contains gathered i ↔ Contains taken i
  pub rising : IsStrictlyIncreasing gathered
  pub few : length gathered ≤ length taken

-- the messages that are taken, or, where there is none, the latest above, 0 for none
abbrev pub chosen : List ℕ → ℕ → List ℕ
chosen [] zero = []
chosen [] (suc n) = suc n ∷ []
chosen (i ∷ rest) above = i ∷ rest

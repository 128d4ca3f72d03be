-- Percentiles of a list of numbers.
use Rattle.std.specs.Prelude.{ℕ, ◌*◌, ◌≤◌, List, count_by, length, nat_le}

-- how many of the numbers are at most this one
abbrev pub count_within : List ℕ → ℕ → ℕ
count_within numbers bound = count_by (λ n. nat_le n bound) numbers

-- at least p of 100 of the numbers are at most this one
abbrev pub Covers : ℕ → List ℕ → ℕ → Type 0
Covers p numbers bound = p * length numbers ≤ 100 * count_within numbers bound

-- the least number that at least p of 100 of the numbers are at most: 0 where there are none
pub record IsPercentile (p : ℕ) (numbers : List ℕ) (n : ℕ) : Type 0 where
  pub covers : Covers p numbers n
  pub least : (other : ℕ) → Covers p numbers other → n ≤ other

-- Elements of a list told together: in groups of those that are alike.
use Rattle.std.specs.Prelude.{◌≡◌, ℕ, ◌<◌, Bool, false, List, [], ◌∷◌, ◌++◌, All, if◌then◌else◌}
use Rattle.std.specs.Prelude.{count_by, map, sum_by}
use Rattle.std.specs.List.{filter, fold, list_any}
use Rattle.std.specs.List.Sorted.{IsStrictlyIncreasing}

-- the element goes after the others where it is like none of them
abbrev pub with_first : {X : Type 0} → (X → X → Bool) → List X → X → List X
with_first alike firsts x = if list_any (alike x) firsts then firsts else firsts ++ x ∷ []

-- the first of each group: the elements that are like none before them, in their order
abbrev pub firsts_by : {X : Type 0} → (X → X → Bool) → List X → List X
firsts_by alike xs = fold (with_first alike) [] xs

-- the groups, in the order of their firsts: the elements that are like each, in their order
abbrev pub grouped_by : {X : Type 0} → (X → X → Bool) → List X → List (List X)
grouped_by alike xs = map (λ first. filter (alike first) xs) (firsts_by alike xs)

-- numbers in groups: each is in one of them, and sums over the groups are the sums over all; of numbers
-- that rise the firsts rise, and each is like none before it
pub record AreGrouped (alike : ℕ → ℕ → Bool) (numbers : List ℕ) : Type 0 where
  pub once : All (λ n. count_by (λ first. alike first n) (firsts_by alike numbers) ≡ 1) numbers
  pub add_up : (term : ℕ → ℕ) → sum_by (sum_by term) (grouped_by alike numbers) ≡ sum_by term numbers
  pub rising : IsStrictlyIncreasing numbers → IsStrictlyIncreasing (firsts_by alike numbers)
  pub first : IsStrictlyIncreasing numbers
      → All (λ first. All (λ n. n < first → alike first n ≡ false) numbers) (firsts_by alike numbers)

-- Numbers summed up a tree.
use Rattle.std.specs.Prelude.{◌≡◌, ℕ, ◌<◌, ◌↔◌, Bool, IsTrue, List, if◌then◌else◌, length}
use Rattle.std.specs.Prelude.{slice_index, sum_by}
use Rattle.std.specs.List.{range_with_len}
use Rattle.waff_model.specs.Tree.{Node, AtOrAbove}

-- the sum of those of the numbers whose places are meant
abbrev pub sum_among : List ℕ → (ℕ → Bool) → ℕ
sum_among numbers is_meant =
    sum_by (λ c. if is_meant c then slice_index numbers c else 0)
    (range_with_len 0 (length numbers))

-- the sum of the numbers of the affinity a and of those below it
pub record IsSumBelow (tree : List Node) (numbers : List ℕ) (a sum : ℕ) : Type 0 where
  pub is_below : ℕ → Bool
  pub tells : (c : ℕ) → c < length numbers → IsTrue (is_below c) ↔ AtOrAbove tree a c
  pub sum_is : sum ≡ sum_among numbers is_below

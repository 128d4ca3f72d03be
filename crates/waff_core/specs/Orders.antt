-- Orders of messages, read one message after another.
use Rattle.std.specs.Prelude.{◌≡◌, ℕ, ◌-◌, ◌≤◌, Bool, true, false, List, length, All}
use Rattle.std.specs.Prelude.{slice_index_or}
use Rattle.waff_order.specs.Needs.{needs_of}

-- message n is marked, from 1
abbrev pub IsMarked : List Bool → ℕ → Type 0
IsMarked marks n = slice_index_or marks (n - 1) false ≡ true

-- message n may stand next after those that are marked: it is none of them, and all its needs are
pub record MayStand (needs : List (List ℕ)) (marks : List Bool) (n : ℕ) : Type 0 where
  pub from : 1 ≤ n
  pub to : n ≤ length needs
  pub fresh : ¬ IsMarked marks n
  pub needed : All (IsMarked marks) (needs_of needs n)

-- The latest of some messages, with its finish.
use Rattle.std.specs.Prelude.{◌≡◌, ℕ, Bool, ◌&&◌, ◌||◌, ◌==◌, nat_lt, Option, Some, None}
use Rattle.std.specs.Prelude.{if◌then◌else◌}
use Rattle.waff_model.specs.Later.{Join}
use Rattle.waff_plan.specs.Chain.{IsLatest}
use Rattle.waff_plan.specs.declared.latest.Latest.{Latest}

-- whether the other finishes later, or at the same tick with a lower number
abbrev pub is_later : Latest → Latest → Bool
is_later one other =
    nat_lt one.finish other.finish || (one.finish == other.finish && nat_lt other.number one.number)

-- the later of two, where they are there
abbrev pub later_of : Option Latest → Option Latest → Option Latest
later_of None other = other
later_of (Some one) None = Some one
later_of (Some one) (Some other) = if is_later one other then Some other else Some one

-- messages by which is later, where None is none
abbrev pub latest_order : Join (Option Latest)
latest_order = record { none = None; later = later_of }

-- the latest message that Is holds of, with its finish
pub record IsLatestWith (Is : ℕ → Type 0) (finish : ℕ → ℕ) (latest : Latest) : Type 0 where
  pub number : IsLatest Is finish latest.number
  pub finish_is : latest.finish ≡ finish latest.number

-- the latest message that Is holds of, or that it holds of none
abbrev pub IsFound : (ℕ → Type 0) → (ℕ → ℕ) → Option Latest → Type 0
IsFound Is finish None = (i : ℕ) → Is i → ⊥
IsFound Is finish (Some latest) = IsLatestWith Is finish latest

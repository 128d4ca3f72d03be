-- Values that are joined into the later one, kept at places.
use Rattle.std.specs.Prelude.{◌≡◌, ℕ, max, List, [], ◌∷◌, slice_range, slice_index_or}

-- the later of two values, and the one that stands for nothing
pub record Join (T : Type 0) : Type 0 where
  pub none : T
  pub later : T → T → T

-- a commutative monoid: the latest of some values is the same in whatever order they come
pub record IsMonoid {T : Type 0} (join : Join T) : Type 0 where
  pub unit : (x : T) → join.later join.none x ≡ x
  pub associates : (x y z : T) → join.later x (join.later y z) ≡ join.later (join.later x y) z
  pub commutes : (x y : T) → join.later x y ≡ join.later y x

-- the numbers of messages, where 0 is none
abbrev pub by_number : Join ℕ
by_number = record { none = 0; later = max }

-- the latest of some values
abbrev pub latest_of : {T : Type 0} → Join T → List T → T
latest_of join [] = join.none
latest_of join (x ∷ xs) = join.later x (latest_of join xs)

-- the latest of the values at the places from `from` up to `to`
abbrev pub latest_in : {T : Type 0} → Join T → List T → ℕ → ℕ → T
latest_in join values from to = latest_of join (slice_range values from to)

-- the value at a place
abbrev pub value_at : {T : Type 0} → Join T → List T → ℕ → T
value_at join values place = slice_index_or values place join.none

-- Readings, which give a value or a fault, one after the other and side by side.
use Rattle.std.specs.Prelude.{ℕ, List, [], ◌∷◌, ◌++◌, Result, Ok, Err, nat_le, if◌then◌else◌}

-- one reading after the other: the first fault counts
infixl 10 ◌>>=◌
abbrev pub ◌>>=◌ : {F A B : Type 0} → Result A F → (A → Result B F) → Result B F
(Ok x) >>= f = f x
(Err e) >>= f = Err e

-- a reading with its fault told in other words
abbrev pub told : {E F A : Type 0} → (E → F) → Result A E → Result A F
told name (Ok x) = Ok x
told name (Err e) = Err (name e)

-- of two faults the one of least rank, the first of two of one rank
abbrev pub least : {F : Type 0} → (F → ℕ) → F → F → F
least rank a b = if nat_le (rank a) (rank b) then a else b

-- the list of one value
abbrev pub one : {F A : Type 0} → Result A F → Result (List A) F
one (Ok x) = Ok (x ∷ [])
one (Err e) = Err e

-- two lists read side by side: both in turn, or the fault of least rank
abbrev pub both : {F A : Type 0} → (F → ℕ)
    → Result (List A) F → Result (List A) F → Result (List A) F
both rank (Ok xs) (Ok ys) = Ok (xs ++ ys)
both rank (Ok xs) (Err e) = Err e
both rank (Err e) (Ok ys) = Err e
both rank (Err d) (Err e) = Err (least rank d e)

-- two values read side by side: both, or the fault of least rank
abbrev pub pair : {F A B : Type 0} → (F → ℕ) → Result A F → Result B F → Result (A × B) F
pair rank (Ok x) (Ok y) = Ok (x, y)
pair rank (Ok x) (Err e) = Err e
pair rank (Err e) (Ok y) = Err e
pair rank (Err d) (Err e) = Err (least rank d e)

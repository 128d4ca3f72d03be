-- Texts that a test compares.
use Rattle.std.proofs.Common.{◌≡◌, ℕ, List, Bool, true, false, refl}
use Rattle.std.specs.Bool.{Decides}
use Rattle.std.specs.Prelude.{not}
use Rattle.std.specs.Str.{bytes_eq}
use Rattle.std.proofs.lemmas.Slice.Eq.{bytes_eq-Decides}

-- texts that the test tells apart differ
pub differ : (xs ys : List ℕ) → true ≡ not (bytes_eq xs ys) → xs ≡ ys → ⊥
differ xs ys = by (bytes_eq xs ys) (bytes_eq-Decides xs ys)
  where
    by : (b : Bool) → Decides b (xs ≡ ys) → true ≡ not b → xs ≡ ys → ⊥
    by true d h e = cc h
    by false d h e = cc (d.1 e)

-- texts that the test does not tell apart are equal
pub agree : (xs ys : List ℕ) → false ≡ not (bytes_eq xs ys) → xs ≡ ys
agree xs ys = by (bytes_eq xs ys) (bytes_eq-Decides xs ys)
  where
    by : (b : Bool) → Decides b (xs ≡ ys) → false ≡ not b → xs ≡ ys
    by true d h = d.0 refl
    by false d h = absurd (cc h)

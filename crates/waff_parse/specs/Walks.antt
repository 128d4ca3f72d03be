-- Readings of lists.
use Rattle.std.specs.Prelude.{ℕ, List, [], ◌∷◌, ◌++◌, Result, Ok, Err}
use Rattle.waff_parse.specs.Refusals.{◌>>=◌, both, one}

-- each item read in turn, by what came before it: the first fault counts
unfoldable pub walk : {F A B S : Type 0}
    → (S → A → Result B F) → (S → A → S) → S → List A → Result (List B) F
walk f next s [] = Ok []
walk f next s (a ∷ more) = do
  b ← f s a
  bs ← walk f next (next s a) more
  Ok (b ∷ bs)

-- a list that was read, behind the part read before it
unfoldable pub with_front : {F B : Type 0} → List B → Result (List B) F → Result (List B) F
with_front front (Ok bs) = Ok (front ++ bs)
with_front front (Err e) = Err e

-- each item read by itself: the fault of least rank counts
unfoldable pub gather : {F A B : Type 0} → (F → ℕ) → (A → Result B F) → List A → Result (List B) F
gather rank f [] = Ok []
gather rank f (a ∷ more) = both rank (one (f a)) (gather rank f more)

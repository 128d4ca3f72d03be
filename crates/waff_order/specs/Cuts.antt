-- A list of lists, kept as one list of all elements and a list of the places where each part ends.
use Rattle.std.specs.Prelude.{◌≡◌, ℕ, ◌≤◌, List, [], ◌∷◌, length, slice_range}

-- the parts of a list that begin at this place and end at these
abbrev pub parts : {A : Type 0} → List A → ℕ → List ℕ → List (List A)
parts flat from [] = []
parts flat from (end ∷ ends) = slice_range flat from end ∷ parts flat end ends

-- the ends follow one another up to the end of the list
abbrev pub AreCuts : {A : Type 0} → List A → ℕ → List ℕ → Type 0
AreCuts flat from [] = from ≡ length flat
AreCuts flat from (end ∷ ends) = (from ≤ end) × (end ≤ length flat) × AreCuts flat end ends

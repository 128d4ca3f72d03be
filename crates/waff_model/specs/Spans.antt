-- What changes at a span of places of a table, and what messages stand there.
use Rattle.std.specs.Prelude.{ℕ, zero, suc, List, [], ◌∷◌, take, drop}

-- the table, with f at the places from `from` up to `to`
abbrev pub map_in : {A : Type 0} → (A → A) → List A → ℕ → ℕ → List A
map_in f values from zero = values
map_in f [] from (suc to) = []
map_in f (x ∷ xs) zero (suc to) = f x ∷ map_in f xs zero to
map_in f (x ∷ xs) (suc from) (suc to) = x ∷ map_in f xs from to

-- the messages that stand in a table, by number, where 0 is none
abbrev pub messages_of : List ℕ → List ℕ
messages_of [] = []
messages_of (zero ∷ rest) = messages_of rest
messages_of (suc m ∷ rest) = suc m ∷ messages_of rest

-- those that stand at the places from `from` up to `to`
abbrev pub messages_in : List ℕ → ℕ → ℕ → List ℕ
messages_in table from to = messages_of (drop from (take to table))

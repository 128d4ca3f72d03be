-- The names of messages, and the distinct ones of some names.
use Rattle.std.specs.Prelude.{ℕ, List, [], ◌∷◌, ◌++◌, if◌then◌else◌, fold, map}
use Rattle.std.specs.List.{list_any}
use Rattle.std.specs.Str.{bytes_eq}
use Rattle.waff_model.specs.declared.message.Message.{Message}

-- the names of messages, in the order of arrival
abbrev pub message_names : List Message → List (List ℕ)
message_names messages = map (λ message. message.name) messages

-- a name goes after the others where it is not among them
abbrev pub with_name : List (List ℕ) → List ℕ → List (List ℕ)
with_name names name = if list_any (bytes_eq name) names then names else names ++ name ∷ []

-- the distinct ones, in the order in which they first appear
abbrev pub distinct_names : List (List ℕ) → List (List ℕ)
distinct_names names = fold with_name [] names

-- The colours of bars: the first sixteen distinct names of messages have one each.
use Rattle.std.specs.Prelude.{ℕ, ◌+◌, List, Option, Some, None, position, take}
use Rattle.std.specs.Str.{bytes_eq}
use Rattle.waff_model.specs.DistinctNames.{distinct_names}

-- the names that have a colour: the first sixteen of the distinct ones
abbrev pub coloured : List (List ℕ) → List (List ℕ)
coloured names = take 16 (distinct_names names)

-- the number of a colour by the place of its name, 0 for the names that have none
abbrev pub colour_at : Option ℕ → ℕ
colour_at None = 0
colour_at (Some place) = place + 1

abbrev pub colour_of : List (List ℕ) → List ℕ → ℕ
colour_of names name = colour_at (position (bytes_eq name) names)

-- The part of a plan that a picture shows.
use Rattle.std.specs.Prelude.{ℕ, ◌+◌, max, Option, Some, None}
use Rattle.waff_draw.specs.declared.parts.Part.{Part}

-- where it ends, if no end is given: with a plan of this length, or with its first tick where the
-- plan ended before
abbrev pub end_from : ℕ → ℕ → Option ℕ → ℕ
end_from length from None = max length (from + 1)
end_from length from (Some to) = to

abbrev pub end_of : Part → ℕ → ℕ
end_of part length = end_from length part.from part.to

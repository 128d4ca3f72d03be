-- One input for two files: the hierarchy stands before the first line that is exactly `---`, the
-- trace after it.
use Rattle.std.specs.Prelude.{ℕ, ◌-◌, ◌==◌, ◌&&◌, ◌||◌, Bool, List, [], ◌∷◌, Option, Some, None}
use Rattle.std.specs.Prelude.{codes, drop, get_or, if◌then◌else◌, is_some, length, option_and_then}
use Rattle.std.specs.Prelude.{option_map, position, take, unwrap_or}
use Rattle.std.specs.List.{range_with_len}
use Rattle.std.specs.Str.{bytes_eq}

abbrev pub line_feed : ℕ
line_feed = 10

abbrev pub carriage_return : ℕ
carriage_return = 13

-- what stands behind the end of a line: a line feed, a carriage return and a line feed, or the end
-- of the text
abbrev pub behind_end : List ℕ → Option (List ℕ)
behind_end [] = Some []
behind_end (a ∷ []) = if a == line_feed then Some [] else None
behind_end (a ∷ b ∷ more) =
    if a == line_feed then Some (b ∷ more)
    else (if a == carriage_return && (b == line_feed) then Some more else None)

-- what stands behind the first line of a text, if that is exactly `---`
unfoldable pub behind_mark : List ℕ → Option (List ℕ)
behind_mark text =
    if bytes_eq (take 3 text) (codes "---") then behind_end (drop 3 text) else None

-- a line begins at this place
abbrev pub begins_line : List ℕ → ℕ → Bool
begins_line input place = place == 0 || (get_or input (place - 1) 0 == line_feed)

-- a line that is exactly `---` begins at this place
abbrev pub is_mark : List ℕ → ℕ → Bool
is_mark input place = begins_line input place && is_some (behind_mark (drop place input))

-- the first such place
abbrev pub mark_of : List ℕ → Option ℕ
mark_of input = position (is_mark input) (range_with_len 0 (length input))

-- what stands before the first mark, all of it where there is none
abbrev pub before_mark : List ℕ → List ℕ
before_mark input = unwrap_or (option_map (λ place. take place input) (mark_of input)) input

-- what stands after the line of the first mark, nothing where there is none
abbrev pub after_mark : List ℕ → List ℕ
after_mark input =
    unwrap_or (option_and_then (λ place. behind_mark (drop place input)) (mark_of input)) []

-- The list of a message as a trace spells it: the earlier messages that it awaits.
use Rattle.std.specs.Prelude.{ℕ, List, [], ◌∷◌, length, Option, Some, None, Result, Ok, Err, ok_or}
use Rattle.std.specs.Prelude.{Bool, true, ◌&&◌, ◌-◌, ◌==◌, nat_le, nat_lt, if◌then◌else◌}
use Rattle.waff_model.specs.declared.awaits.Await.{Await}
use Rattle.waff_model.specs.declared.limits.TheConstants.{MAX_THINK}
use Rattle.waff_parse.specs.Fields.{Field}
use Rattle.waff_parse.specs.Refusals.{◌>>=◌}
use Rattle.waff_parse.specs.Texts.{blank, number_of, number_within, parts}
use Rattle.waff_parse.specs.Walks.{gather}
use Rattle.waff_read.specs.Places.{most_awaited}
use Rattle.waff_read.specs.TraceFaults.{number}
use Rattle.waff_read.specs.declared.place.Place.{Place}
use Rattle.waff_read.specs.declared.trace_fault.TraceFault.{TraceFault}
use Rattle.waff_read.specs.declared.trace_fault.TraceFault.TheVariants as fault

-- the byte before a gap
abbrev pub plus : ℕ
plus = 43

-- a message that is awaited: its number, and `+` and a gap, which is 0 where none is written
abbrev pub await_of_parts : List Field → Result Await TraceFault
await_of_parts [] = Err fault.After
await_of_parts (message ∷ []) = do
  n ← ok_or (number_of message) fault.After
  Ok (record { message = n; gap = 0 })
await_of_parts (message ∷ gap ∷ []) = do
  n ← ok_or (number_of message) fault.After
  g ← ok_or (number_of gap) fault.After
  Ok (record { message = n; gap = g })
await_of_parts (message ∷ gap ∷ more ∷ others) = Err fault.After

-- the message that a piece spells, and its gap: numbers of any length
unfoldable pub await_of : List ℕ → Result Await TraceFault
await_of piece = await_of_parts (parts plus piece)

-- a gap within the limit, 0 where none is written
abbrev pub gap_of : Option Field → Result ℕ TraceFault
gap_of None = Ok 0
gap_of (Some text) = ok_or (number_within 0 MAX_THINK text) fault.After

-- the messages that the pieces joined by one space spell; none where nothing is written
unfoldable pub awaits_of : Field → Result (List Await) TraceFault
awaits_of text = if length text == 0 then Ok [] else gather number await_of (parts blank text)

-- the number lies between two others, and the gap is within the limit
abbrev pub is_between : ℕ → ℕ → Await → Bool
is_between low high a = nat_lt low a.message && (nat_lt a.message high && nat_le a.gap MAX_THINK)

-- the message that a piece spells, if it lies between these numbers
abbrev pub await_between : ℕ → ℕ → List ℕ → Result Await TraceFault
await_between low high piece = do
  a ← await_of piece
  if is_between low high a then Ok a else Err fault.After

-- each lies between, and the numbers rise
abbrev pub are_between : ℕ → ℕ → List Await → Bool
are_between low high [] = true
are_between low high (a ∷ more) = is_between low high a && are_between a.message high more

-- the list of message n that a text spells
unfoldable pub list_of : ℕ → Field → Result (List Await) TraceFault
list_of n text = do
  list ← awaits_of text
  if are_between 0 n list then Ok list else Err fault.After

-- the list of the message at this place, which is empty where there is no field for it; with it
-- there are not too many in all
abbrev pub after_of : Place → Option Field → Result (List Await) TraceFault
after_of place None = Ok []
after_of place (Some text) = do
  list ← list_of (place.at - 1) text
  if nat_lt (most_awaited place) (length list) then Err fault.TooManyAfter else Ok list

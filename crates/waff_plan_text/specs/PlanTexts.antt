-- Texts of plans.
use Rattle.std.specs.Prelude.{ℕ, ◌+◌, Bool, false, if◌then◌else◌, List, [], ◌∷◌, replicate}
use Rattle.std.specs.Prelude.{Option, Some, None, ok_or, Result, Ok, Err, slice_set, ◌-◌, ◌≡◌}
use Rattle.std.specs.Prelude.{drop}
use Rattle.std.specs.Cmp.Lexicographic.{pointwise}
use Rattle.std.specs.Str.{bytes_eq}
use Rattle.waff_model.specs.declared.message.Version.{Version}
use Rattle.waff_parse.specs.Fields.{Field, five_of}
use Rattle.waff_parse.specs.Refusals.{◌>>=◌, told}
use Rattle.waff_parse.specs.Rows.{Record, is_text, records_of}
use Rattle.waff_parse.specs.Walks.{walk}
use Rattle.waff_plan_text.specs.Given.{Given}
use Rattle.waff_plan_text.specs.Refusals.{at_record}
use Rattle.waff_plan_text.specs.Rows.{Slots, row_of}
use Rattle.waff_plan_text.specs.Spelling.{plan_header}
use Rattle.waff_plan_text.specs.Summaries.{begins_summary, summary_of}
use Rattle.waff_plan_text.specs.declared.refusal.PlanTextError.{PlanTextError}
use Rattle.waff_plan_text.specs.declared.refusal.PlanTextError.TheVariants as error
use Rattle.waff_plan_text.specs.declared.row.NumberedRow.{NumberedRow}
use Rattle.waff_plan_text.specs.declared.row.Row.{Row}

-- the header
abbrev pub is_header : Option (Field × Field × Field × Field × Field) → Bool
is_header None = false
is_header (Some f) = pointwise bytes_eq (f.0 ∷ f.1 ∷ f.2 ∷ f.3 ∷ f.4 ∷ []) plan_header

-- the first of the records is the header
abbrev pub header_of : List Record → Result (Unit {0}) PlanTextError
header_of [] = Err (error.Header 1)
header_of (header ∷ rows) =
    if is_text header then
    (if is_header (five_of header) then Ok tt else Err (error.Header 1)) else Err (error.Csv 1)

-- a row, which the message after this many has to have had
abbrev pub row_in : ℕ → Option Row → Result Row PlanTextError
row_in before slot = ok_or slot (error.Missing (before + 1))

abbrev pub next_message : ℕ → Option Row → ℕ
next_message before slot = before + 1

-- the rows in the order of the messages: the first message without one is missing
abbrev pub rows_in : Slots → Result (List Row) PlanTextError
rows_in slots = walk row_in next_message 0 slots

-- the rows so far with one more, in the place of its message
abbrev pub put : Slots → NumberedRow → Slots
put slots given = slice_set slots (given.message - 1) (Some given.row)

-- the plan whose summary begins with the first of the records, which has this number
unfoldable pub plan_of_summary : Version → ℕ → ℕ → Slots → List Record → Result Given PlanTextError
plan_of_summary version messages at slots records = do
  rows ← rows_in slots
  summary ← summary_of version messages at records
  Ok (record { version = version; rows = rows; summary = summary })

-- the plan of no record more, of which this would be the number: a row is missing, or else the
-- summary
unfoldable pub plan_of_end : ℕ → Slots → Result Given PlanTextError
plan_of_end at slots = rows_in slots >>= (λ _. Err (error.Summary at))

-- the plan of records after the rows so far, the first of which has this number: rows, and then the
-- summary
unfoldable pub plan_after : Version → ℕ → ℕ → Slots → List Record → Result Given PlanTextError
plan_after version messages at slots [] = plan_of_end at slots
plan_after version messages at slots (first ∷ more) =
    if is_text first then (
    if begins_summary first then plan_of_summary version messages at slots (first ∷ more)
    else (told (at_record at) (row_of slots first) >>= (λ given.
    plan_after version messages (at + 1) (put slots given) more)))
    else Err (error.Csv at)

-- the plan of records after the header
abbrev pub plan_of_rows : Version → ℕ → List Record → Result Given PlanTextError
plan_of_rows version messages records =
    plan_after version messages 2 (replicate messages None) records

-- the plan of records: the header, a row for each message, and the summary
unfoldable pub plan_of_records : Version → ℕ → List Record → Result Given PlanTextError
plan_of_records version messages records = do
  _ ← header_of records
  plan_of_rows version messages (drop 1 records)

-- the plan that bytes spell, of this version and for as many messages
abbrev pub plan_of : Version → ℕ → List ℕ → Result Given PlanTextError
plan_of version messages bytes = plan_of_records version messages (records_of bytes)

-- an error tells the error of the reading, unless memory ran out
abbrev pub Tells : PlanTextError → Result Given PlanTextError → Type 0
Tells error.Memory read = Unit {0}
Tells e read = read ≡ Err e

-- what was read is the plan that the bytes spell, unless memory ran out
abbrev pub GivesPlan : Result Given PlanTextError → Result Given PlanTextError → Type 0
GivesPlan (Ok plan) read = read ≡ Ok plan
GivesPlan (Err e) read = Tells e read

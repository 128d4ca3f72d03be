-- Rows of a plan text: what each says of a message.
use Rattle.std.specs.Prelude.{ℕ, ◌-◌, ◌≤◌, Bool, ◌&&◌, if◌then◌else◌, List, length, Option, Some}
use Rattle.std.specs.Prelude.{None, ok_or, is_some, Result, Ok, Err, slice_index_or}
use Rattle.waff_model.specs.Names.{is_name}
use Rattle.waff_parse.specs.Fields.{Field, five_of}
use Rattle.waff_parse.specs.Refusals.{◌>>=◌}
use Rattle.waff_parse.specs.Rows.{Record}
use Rattle.waff_parse.specs.Texts.{number_of, number_within}
use Rattle.waff_plan_text.specs.Fields.{is_worker, number_within_limit, worker_of}
use Rattle.waff_model.specs.declared.limits.TheConstants.{MAX_TICK}
use Rattle.waff_plan_text.specs.declared.refusal.Refusal.{Refusal}
use Rattle.waff_plan_text.specs.declared.refusal.Refusal.TheVariants as refusal
use Rattle.waff_plan_text.specs.declared.row.NumberedRow.{NumberedRow}
use Rattle.waff_plan_text.specs.declared.row.Row.{Row}

-- the rows so far: one place for each message, with its row if it had one
abbrev pub Slots : Type 0
Slots = List (Option Row)

-- the row so far of message n, from 1
abbrev pub slot_of : Slots → ℕ → Option Row
slot_of slots n = slice_index_or slots (n - 1) None

-- the times of a row are within the limit
pub record IsWithinLimit (row : Row) : Type 0 where
  pub start : row.start ≤ MAX_TICK
  pub finish : row.finish ≤ MAX_TICK

-- fields behind the number of a message are those of a row: a name, two numbers, and a worker
abbrev pub is_row : Field → Field → Field → Field → Bool
is_row affinity start finish worker = is_name affinity
    && (is_some (number_of start) && (is_some (number_of finish) && is_worker worker))

-- what the fields of a row say: each number is within the limit
unfoldable pub row_of_fields : Field → Field → Field → Field → Result Row Refusal
row_of_fields affinity start_text finish_text worker_text = do
  start ← number_within_limit start_text
  finish ← number_within_limit finish_text
  worker ← worker_of worker_text
  Ok (record { affinity = affinity; start = start; finish = finish; worker = worker })

-- the number of a message, one of those that have a place
abbrev pub message_of : Slots → Field → Result ℕ Refusal
message_of slots text = ok_or (number_within 1 (length slots) text) refusal.Row

-- fields are those of a row
abbrev pub shaped : Bool → Result (Unit {0}) Refusal
shaped is = if is then Ok tt else Err refusal.Row

-- a message that had no row
abbrev pub fresh : Option Row → Result (Unit {0}) Refusal
fresh slot = if is_some slot then Err refusal.Twice else Ok tt

-- the row of five fields, after the rows so far
unfoldable pub numbered_row_of : Slots → Field
    → Field → Field → Field → Field → Result NumberedRow Refusal
numbered_row_of slots message_text affinity start finish worker = do
  message ← message_of slots message_text
  _ ← shaped (is_row affinity start finish worker)
  _ ← fresh (slot_of slots message)
  row ← row_of_fields affinity start finish worker
  Ok (record { message = message; row = row })

abbrev pub numbered_row_of_five : Slots → Option (Field × Field × Field × Field × Field)
    → Result NumberedRow Refusal
numbered_row_of_five slots None = Err refusal.Row
numbered_row_of_five slots (Some f) = numbered_row_of slots f.0 f.1 f.2 f.3 f.4

-- the row of a record, after the rows so far: it has five fields
abbrev pub row_of : Slots → Record → Result NumberedRow Refusal
row_of slots record_fields = numbered_row_of_five slots (five_of record_fields)

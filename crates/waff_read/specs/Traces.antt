-- Traces as texts.
use Rattle.std.specs.Prelude.{◌≡◌, ℕ, List, [], ◌∷◌, drop, Option, Some, None, Result, Ok, Err}
use Rattle.std.specs.Prelude.{if◌then◌else◌}
use Rattle.waff_model.specs.Layout.{Space}
use Rattle.waff_model.specs.Messages.{Arrivals, sizes_of}
use Rattle.waff_model.specs.declared.message.Message.{Message}
use Rattle.waff_model.specs.declared.message.Version.{Version}
use Rattle.waff_parse.specs.Refusals.{◌>>=◌, told}
use Rattle.waff_parse.specs.Rows.{Record, is_text, records_of}
use Rattle.waff_parse.specs.declared.stop.Stop.{Stop}
use Rattle.waff_parse.specs.declared.stop.Stop.TheVariants as stop
use Rattle.waff_read.specs.Messages.{message_of, version_of}
use Rattle.waff_read.specs.Places.{first_place, next_place, place_at}
use Rattle.waff_read.specs.TraceFaults.{at_record}
use Rattle.waff_read.specs.declared.place.Place.{Place}
use Rattle.waff_read.specs.declared.trace_fault.TraceFault.TheVariants as fault
use Rattle.waff_read.specs.declared.trace_fault.TraceError.{TraceError}
use Rattle.waff_read.specs.declared.trace_fault.TraceError.TheVariants as error

-- the version that the first of the records tells, up to the newest that is known
abbrev pub header_of : Version → List Record → Result Version TraceError
header_of newest [] = Err (error.Header 1)
header_of newest (header ∷ rows) =
    told (at_record 1) (if is_text header then version_of newest header else Err fault.Csv)

-- the message of the record at this place
unfoldable pub message_at : Version → List Space → Place → Record → Result Message TraceError
message_at version spaces place row =
    told (at_record place.at) (if is_text row then message_of version spaces place row else Err
    fault.Csv)

-- the messages of records, the first of which is at this place
unfoldable pub messages_at : Version
    → List Space → Place → List Record → Result (List Message) TraceError
messages_at version spaces place [] = Ok []
messages_at version spaces place (row ∷ rows) = do
  message ← message_at version spaces place row
  messages ← messages_at version spaces (next_place place message) rows
  Ok (message ∷ messages)

-- text spells these messages, a record each, the first of which has this number
abbrev pub Spells : Version → List Space → ℕ → List ℕ → List Message → Type 0
Spells version spaces at text messages =
    messages_at version spaces (place_at at) (records_of text) ≡ Ok messages

-- the trace of records after the header
abbrev pub trace_of_rows : Version → List Space → List Record → Result Arrivals TraceError
trace_of_rows version spaces rows = do
  messages ← messages_at version spaces first_place rows
  Ok (record { version = version; sizes = sizes_of spaces; messages = messages })

-- the trace of records: a header of a version up to the newest, and then a message each
unfoldable pub trace_of_records : Version → List Space → List Record → Result Arrivals TraceError
trace_of_records newest spaces rows = do
  version ← header_of newest rows
  trace_of_rows version spaces (drop 1 rows)

-- the trace that bytes spell, for cells of these spaces, of a version up to the newest
abbrev pub trace_of : Version → List Space → List ℕ → Result Arrivals TraceError
trace_of newest spaces bytes = trace_of_records newest spaces (records_of bytes)

-- an error tells the error of the reading, unless memory ran out
abbrev pub Tells : TraceError → Result Arrivals TraceError → Type 0
Tells error.Memory read = Unit {0}
Tells e read = read ≡ Err e

-- what was read is the trace that the bytes spell, unless memory ran out
abbrev pub GivesTrace : Result Arrivals TraceError → Result Arrivals TraceError → Type 0
GivesTrace (Ok trace) read = read ≡ Ok trace
GivesTrace (Err e) read = Tells e read

-- what the next read gives: the message of the first of the records, the others being left; none
-- where there is no record; or the error of the first
abbrev pub GivesMessage : Version → List Space
    → Place → Result (Option Message) (Stop TraceError) → List Record → List Record → Type 0
GivesMessage version spaces place (Ok None) left others = left ≡ []
GivesMessage version spaces place (Ok (Some message)) left others =
    (row : Record) × (left ≡ row ∷ others) × (message_at version spaces place row ≡ Ok message)
GivesMessage version spaces place (Err stop.Memory) left others = Unit {0}
GivesMessage version spaces place (Err (stop.Fault e)) left others =
    (row : Record) × (more : List Record) × (left ≡ row ∷ more)
    × (message_at version spaces place row ≡ Err e)

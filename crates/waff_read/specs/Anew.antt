-- A trace told anew: its header, and some of its records with other costs and other lists.
use Rattle.std.specs.Prelude.{◌≡◌, ℕ, ◌-◌, ◌<◌, ◌≤◌, List, [], ◌∷◌, length, map, All, AllPairs, Option}
use Rattle.std.specs.Prelude.{Some, None, option_map, slice_get, slice_index_or}
use Rattle.std.specs.Fmt.{decimal}
use Rattle.std.specs.List.{flat_map}
use Rattle.csv.specs.Writing.{default_writer, row_text}
use Rattle.waff_model.specs.Awaits.{AreLists, awaited_in}
use Rattle.waff_model.specs.Numbers.{IsAmongFirst}
use Rattle.waff_model.specs.declared.awaits.Await.{Await}
use Rattle.waff_model.specs.declared.limits.TheConstants.{MAX_AWAITED, MAX_COST}
use Rattle.waff_model.specs.declared.message.Message.{Message}
use Rattle.waff_model.specs.declared.message.Version.{Version}
use Rattle.waff_parse.specs.Rows.{Record}
use Rattle.waff_read.specs.Messages.{Columns, columns_of, header_row, row_of}
use Rattle.waff_read.specs.Spellings.{after_spelled}

-- the same fields but for this cost and, where there is a field for it, this list
abbrev pub columns_anew : Columns → ℕ → List Await → Columns
columns_anew columns cost after = record columns {
  cost = decimal cost;
  after = option_map (λ _. after_spelled after) columns.after;
}

-- the record of fields with the cost and the list of a message; no field where there are none
abbrev pub fields_anew : Option Columns → Message → Record
fields_anew None message = []
fields_anew (Some columns) message = row_of (columns_anew columns message.cost message.after)

-- a record with the cost and the list of a message
abbrev pub row_anew : Version → Record → Message → Record
row_anew version row message = fields_anew (columns_of version row) message

-- records, each with the cost and the list of its message
abbrev pub rows_anew : Version → List Record → List Message → List Record
rows_anew version [] messages = []
rows_anew version (row ∷ rows) [] = []
rows_anew version (row ∷ rows) (message ∷ messages) =
    row_anew version row message ∷ rows_anew version rows messages

-- the text of these, as `csv` writes it, behind the header
abbrev pub text_anew : Version → List Record → List Message → List ℕ
text_anew version rows messages =
    flat_map (row_text default_writer) (header_row version ∷ rows_anew version rows messages)

-- the records with these numbers, from 1
abbrev pub rows_at : List ℕ → List Record → List Record
rows_at numbers rows = map (λ n. slice_index_or rows (n - 1) []) numbers

-- a message is told anew: its cost is another one within the limits, and its list is another one,
-- but none where it had none
pub record IsToldAnew (message told : Message) : Type 0 where
  pub name : told.name ≡ message.name
  pub some_cost : 1 ≤ told.cost
  pub within_cost : told.cost ≤ MAX_COST
  pub release : told.release ≡ message.release
  pub client : told.client ≡ message.client
  pub think : told.think ≡ message.think
  pub no_list : message.after ≡ [] → told.after ≡ []
  pub ops : told.ops ≡ message.ops

-- messages are told anew, each with the list that it had
pub record AreToldAnew (messages told : List Message) : Type 0 where
  pub count : length told ≡ length messages
  pub each : (k : ℕ) (message other : Message) → slice_get messages k ≡ Some message
      → slice_get told k ≡ Some other → IsToldAnew message other
  pub lists : (k : ℕ) (message other : Message) → slice_get messages k ≡ Some message
      → slice_get told k ≡ Some other → other.after ≡ message.after

-- those of messages that have these numbers, from 1 and in order, are told anew, and their lists
-- name earlier ones of them
pub record AreSomeToldAnew (messages : List Message) (numbers : List ℕ) (told : List Message)
    : Type 0 where
  pub among : All (IsAmongFirst (length messages)) numbers
  pub rising : AllPairs (λ n m. n < m) numbers
  pub count : length told ≡ length numbers
  pub each : (k n : ℕ) (message other : Message) → slice_get numbers k ≡ Some n
      → slice_get messages (n - 1) ≡ Some message → slice_get told k ≡ Some other
      → IsToldAnew message other
  pub lists : AreLists 1 told
  pub few_awaited : awaited_in told ≤ MAX_AWAITED

-- Messages as a trace spells them.
use Rattle.std.specs.Prelude.{List, ℕ, ◌^◌, ◌<◌, ◌==◌, [], ◌∷◌, map, unwrap_or, codes}
use Rattle.std.specs.Prelude.{if◌then◌else◌}
use Rattle.std.specs.Fmt.{decimal}
use Rattle.std.specs.List.{flat_map, join_with_byte}
use Rattle.csv.specs.Writing.{default_writer, row_text}
use Rattle.waff_model.specs.Layout.{Space, name_at}
use Rattle.waff_model.specs.Messages.{Arrivals}
use Rattle.waff_model.specs.declared.awaits.Await.{Await}
use Rattle.waff_model.specs.declared.cell.Cell.{Cell}
use Rattle.waff_model.specs.declared.message.Message.{Message}
use Rattle.waff_model.specs.declared.message.Version.{Version}
use Rattle.waff_model.specs.declared.op.Op.{Op}
use Rattle.waff_model.specs.declared.op.Op.TheVariants as op
use Rattle.waff_parse.specs.Rows.{Record}
use Rattle.waff_parse.specs.Texts.{blank, colon, semicolon}
use Rattle.waff_read.specs.Awaits.{plus}
use Rattle.waff_read.specs.Messages.{Columns, columns_with, header_row, row_of}

-- a cell: the name of its space, `:` and its index
abbrev pub cell_spelled : List Space → Cell → List ℕ
cell_spelled spaces cell =
    join_with_byte colon (unwrap_or (name_at spaces cell.space) [] ∷ decimal cell.index ∷ [])

-- the words of an operation
abbrev pub words_of : List Space → Op → List (List ℕ)
words_of spaces (op.Set cell value) = codes "set" ∷ cell_spelled spaces cell ∷ decimal value ∷ []
words_of spaces (op.Add cell value) = codes "add" ∷ cell_spelled spaces cell ∷ decimal value ∷ []
words_of spaces (op.Copy cell source) =
    codes "copy" ∷ cell_spelled spaces cell ∷ cell_spelled spaces source ∷ []
words_of spaces (op.Swap cell other) =
    codes "swap" ∷ cell_spelled spaces cell ∷ cell_spelled spaces other ∷ []
words_of spaces (op.Read cell) = codes "read" ∷ cell_spelled spaces cell ∷ []

-- an operation: its words joined by one space
abbrev pub op_spelled : List Space → Op → List ℕ
op_spelled spaces o = join_with_byte blank (words_of spaces o)

-- operations joined by `;`
abbrev pub ops_spelled : List Space → List Op → List ℕ
ops_spelled spaces list = join_with_byte semicolon (map (op_spelled spaces) list)

-- a message that is awaited: its number, and where there is a gap `+` and the gap
abbrev pub await_spelled : Await → List ℕ
await_spelled a =
    if a.gap == 0 then decimal a.message
    else join_with_byte plus (decimal a.message ∷ decimal a.gap ∷ [])

-- a list: its messages joined by one space
abbrev pub after_spelled : List Await → List ℕ
after_spelled list = join_with_byte blank (map await_spelled list)

-- the fields of the record of a message
abbrev pub columns_spelled : Version → List Space → Message → Columns
columns_spelled version spaces message = columns_with version message.name (decimal message.cost)
    (decimal message.release) message.client (decimal message.think)
    (after_spelled message.after) (ops_spelled spaces message.ops)

-- the record of a message: its name, its cost, from the second version on its release, from the
-- third on its client and its think time, in the fourth its list, and its operations
abbrev pub record_of : Version → List Space → Message → Record
record_of version spaces message = row_of (columns_spelled version spaces message)

-- the text of a trace, as `csv` writes it: its header, and then the record of each message
abbrev pub text_of : List Space → Arrivals → List ℕ
text_of spaces trace = flat_map (row_text default_writer) (header_row trace.version
    ∷ map (record_of trace.version spaces) trace.messages)

-- the number of an operation, if it has one, is below 2^64
abbrev pub HasSmallNumber : Op → Type 0
HasSmallNumber (op.Set cell value) = value < 2 ^ 64
HasSmallNumber (op.Add cell value) = value < 2 ^ 64
HasSmallNumber (op.Copy cell source) = Unit {0}
HasSmallNumber (op.Swap cell other) = Unit {0}
HasSmallNumber (op.Read cell) = Unit {0}

-- What the readers accept, in the words of the formats.
use Rattle.std.specs.Prelude.{◌≡◌, ◌≢◌, ◌↔◌, ◌⊎◌, ℕ, ◌+◌, ◌-◌, ◌<◌, ◌≤◌, List, [], ◌∷◌, length, map}
use Rattle.std.specs.Prelude.{take}
use Rattle.std.specs.Prelude.{drop, true, false, All, Contains, Option, Some, None, Ok, Err, IsTrue}
use Rattle.std.specs.Prelude.{slice_get, codes, IsSome}
use Rattle.std.specs.List.{flat_map}
use Rattle.toml.specs.Data.{Data}
use Rattle.waff_model.specs.Awaits.{IsList}
use Rattle.waff_model.specs.Layout.{Space, Hierarchy, IsLayout, has_locks}
use Rattle.waff_model.specs.Messages.{Arrivals, IsMessage, IsTrace, no_client, sizes_of}
use Rattle.waff_model.specs.Names.{is_name}
use Rattle.waff_model.specs.Tree as trees
use Rattle.waff_model.specs.Tree.{Node, parent_of}
use Rattle.waff_model.specs.declared.format.Format.TheVariants.{F3}
use Rattle.waff_model.specs.declared.kind.Kind.{Kind}
use Rattle.waff_model.specs.declared.kind.Kind.TheVariants.{Classical}
use Rattle.waff_model.specs.Versions as versions
use Rattle.waff_model.specs.Versions.{has_clients, max_messages}
use Rattle.waff_model.specs.declared.awaits.Await.{Await}
use Rattle.waff_model.specs.declared.limits.TheConstants.{MAX_ALL_OPS, MAX_AWAITED, MAX_COST}
use Rattle.waff_model.specs.declared.limits.TheConstants.{MAX_RELEASE, MAX_THINK}
use Rattle.waff_model.specs.declared.message.Message.{Message}
use Rattle.waff_model.specs.declared.message.Version.{Version}
use Rattle.waff_model.specs.declared.op.Op.{Op}
use Rattle.waff_parse.specs.Fields.{Field}
use Rattle.waff_parse.specs.Refusals.{one}
use Rattle.waff_parse.specs.Rows.{Record, is_text, records_of}
use Rattle.waff_parse.specs.Texts.{blank, number_of, number_within, parts, semicolon}
use Rattle.waff_read.specs.Affinities.{tree_in}
use Rattle.waff_read.specs.Anew.{AreSomeToldAnew, AreToldAnew, rows_at, text_anew}
use Rattle.waff_read.specs.Awaits.{await_of}
use Rattle.waff_read.specs.Documents.{document_of}
use Rattle.waff_read.specs.Hierarchies.{hierarchy_of, kind_of, kind_refusal, layout_at}
use Rattle.waff_read.specs.Messages.{Columns, columns_of, message_of, message_of_columns}
use Rattle.waff_read.specs.Ops.{op_of}
use Rattle.waff_read.specs.Pieces.{piece_of}
use Rattle.waff_read.specs.Places.{behind, first_place, most_awaited, most_ops}
use Rattle.waff_read.specs.Shapes.{shape_refusal}
use Rattle.waff_read.specs.Spellings.{HasSmallNumber, record_of, text_of}
use Rattle.waff_read.specs.TraceFaults.{number}
use Rattle.waff_read.specs.Traces.{header_of, message_at, trace_of}
use Rattle.waff_read.specs.declared.place.Place.{Place}
use Rattle.waff_read.specs.declared.trace_fault.TraceError.{TraceError}
use Rattle.waff_read.specs.declared.trace_fault.TraceFault.{TraceFault}
use Rattle.waff_read.specs.declared.trace_fault.TraceFault.TheVariants as fault

-- a release: 0 where there is no field for it, else the number that the field writes, within the
-- limit
abbrev pub IsRelease : Option Field → ℕ → Type 0
IsRelease None release = release ≡ 0
IsRelease (Some text) release = (number_of text ≡ Some release) × (release ≤ MAX_RELEASE)

-- a client: that of none where there is no field for it, else the name in the field
abbrev pub IsClient : Option Field → Field → Type 0
IsClient None client = client ≡ no_client
IsClient (Some text) client = IsTrue (is_name text) × (client ≡ text)

-- a think time: 0 where there is no field for it, else the number that the field writes, within the
-- limit
abbrev pub IsThink : Option Field → ℕ → Type 0
IsThink None think = think ≡ 0
IsThink (Some text) think = (number_of text ≡ Some think) × (think ≤ MAX_THINK)

-- nothing, or pieces joined by one space, spell these messages, each with its gap
abbrev pub SpellAwaits : Field → List Await → Type 0
SpellAwaits [] list = list ≡ []
SpellAwaits (b ∷ bs) list = map await_of (parts blank (b ∷ bs)) ≡ map Ok list

-- what message n awaits: nothing where there is no field for it, else the messages that the field
-- spells, which are earlier ones by rising numbers, with gaps within the limit
abbrev pub IsAfter : ℕ → Option Field → List Await → Type 0
IsAfter n None list = list ≡ []
IsAfter n (Some text) list = SpellAwaits text list × IsList n list

-- the pieces between `;` stand for these operations, one behind the other
abbrev pub SpellOps : Version → List Space → Field → List Op → Type 0
SpellOps version spaces text ops =
    (lists : List (List Op)) × (map (piece_of version spaces) (parts semicolon text) ≡ map Ok lists)
    × (ops ≡ flat_map (λ list. list) lists)

-- the fields of the record at this place spell this message: no check holds, and these are the
-- values
pub record Spells (version : Version) (spaces : List Space) (place : Place)
    (columns : Columns) (message : Message) : Type 0 where
  pub named : IsTrue (is_name columns.name)
  pub name : message.name ≡ columns.name
  pub cost : number_of columns.cost ≡ Some message.cost
  pub some_cost : 1 ≤ message.cost
  pub within_cost : message.cost ≤ MAX_COST
  pub filled : columns.ops ≢ []
  pub ops : SpellOps version spaces columns.ops message.ops
  pub within_ops : length message.ops ≤ most_ops version place
  pub counted : place.at ≤ max_messages version + 1
  pub release : IsRelease columns.release message.release
  pub client : IsClient columns.client message.client
  pub think : IsThink columns.think message.think
  pub after : IsAfter (place.at - 1) columns.after message.after
  pub within_after : length message.after ≤ most_awaited place

-- a record is read as a message exactly where it has the fields of its version and they spell it
abbrev pub RecordIsExact : Version → List Space → Place → Record → Type 0
RecordIsExact version spaces place row =
    (message : Message) → (message_of version spaces place row ≡ Ok message)
    ↔ ((columns : Columns) × (columns_of version row ≡ Some columns)
    × Spells version spaces place columns message)

-- a piece between `;` is refused with this fault
abbrev pub HasPiece : Version → List Space → Field → TraceFault → Type 0
HasPiece version spaces ops e =
    (piece : List ℕ) × Contains (parts semicolon ops) piece × (piece_of version spaces piece ≡ Err e)

-- the check of this fault holds of the fields of the record at this place
abbrev pub HasTraceFault : Version → List Space → Place → Columns → TraceFault → Type 0
HasTraceFault version spaces place columns fault.Csv = ⊥
HasTraceFault version spaces place columns fault.Header = ⊥
HasTraceFault version spaces place columns fault.Fields = ⊥
HasTraceFault version spaces place columns fault.Name = is_name columns.name ≡ false
HasTraceFault version spaces place columns fault.Cost = number_within 1 MAX_COST columns.cost ≡ None
HasTraceFault version spaces place columns fault.NoOps = columns.ops ≡ []
HasTraceFault version spaces place columns fault.Op = HasPiece version spaces columns.ops fault.Op
HasTraceFault version spaces place columns fault.SpaceUnknown =
    HasPiece version spaces columns.ops fault.SpaceUnknown
HasTraceFault version spaces place columns fault.IndexTooLarge =
    HasPiece version spaces columns.ops fault.IndexTooLarge
HasTraceFault version spaces place columns fault.TooManyOps =
    (ops : List Op) × SpellOps version spaces columns.ops ops × (most_ops version place < length ops)
HasTraceFault version spaces place columns fault.TooManyMessages =
    max_messages version + 1 < place.at
HasTraceFault version spaces place columns fault.Release =
    (text : Field) × (columns.release ≡ Some text) × (number_within 0 MAX_RELEASE text ≡ None)
HasTraceFault version spaces place columns fault.Client =
    (text : Field) × (columns.client ≡ Some text) × (is_name text ≡ false)
HasTraceFault version spaces place columns fault.Think =
    (text : Field) × (columns.think ≡ Some text) × (number_within 0 MAX_THINK text ≡ None)
HasTraceFault version spaces place columns fault.After =
    (text : Field) × (columns.after ≡ Some text)
    × ((list : List Await) → SpellAwaits text list → ¬ IsList (place.at - 1) list)
HasTraceFault version spaces place columns fault.TooManyAfter =
    (list : List Await) × IsAfter (place.at - 1) columns.after list
    × (most_awaited place < length list)

-- of the checks that hold of the fields this one has the least number
pub record IsLeastCheck (version : Version) (spaces : List Space) (place : Place)
    (columns : Columns) (e : TraceFault) : Type 0 where
  pub holds : HasTraceFault version spaces place columns e
  pub least : (other : TraceFault) → HasTraceFault version spaces place columns other
      → number e ≤ number other

-- fields that are refused are refused for the check of least number that holds
abbrev pub LeastCheckDecides : Version → List Space → Place → Columns → Type 0
LeastCheckDecides version spaces place columns =
    (e : TraceFault) → message_of_columns version spaces place columns ≡ Err e
    → IsLeastCheck version spaces place columns e

-- before the third version each piece stands for one operation
abbrev pub PiecesAreSingle : Version → List Space → List ℕ → Type 0
PiecesAreSingle version spaces piece =
    has_clients version ≡ false → piece_of version spaces piece ≡ one (op_of spaces piece)

-- a message within the limits, whose cells lie in the spaces of a layout, is read from the record
-- that spells it
abbrev pub SpelledIsRead : Hierarchy → Version → Place → Message → Type 0
SpelledIsRead layout version place message =
    IsLayout layout → IsMessage version (sizes_of layout.spaces) message
    → All HasSmallNumber message.ops → place.at ≤ max_messages version + 1
    → place.ops + length message.ops ≤ MAX_ALL_OPS → IsList (place.at - 1) message.after
    → place.awaited + length message.after ≤ MAX_AWAITED
    → message_of version layout.spaces place (record_of version layout.spaces message) ≡ Ok message

-- a trace within the limits, of a version up to the newest, whose cells lie in the spaces of a
-- layout, is read from the text that spells it
abbrev pub SpelledTraceIsRead : Version → Hierarchy → Arrivals → Type 0
SpelledTraceIsRead newest layout trace =
    IsLayout layout → IsTrace trace → trace.sizes ≡ sizes_of layout.spaces
    → versions.number trace.version ≤ versions.number newest
    → All (λ message. All HasSmallNumber message.ops) trace.messages
    → trace_of newest layout.spaces (text_of layout.spaces trace) ≡ Ok trace

-- the records of a trace are its header and one for each message; each is text, and each after the
-- header has the fields of its version
pub record AreRows (trace : Arrivals) (rows : List Record) : Type 0 where
  pub header : 1 ≤ length rows
  pub count : length (drop 1 rows) ≡ length trace.messages
  pub are_text : All (λ row. is_text row ≡ true) rows
  pub columns : All (λ row. IsSome (columns_of trace.version row)) (drop 1 rows)

-- so it is in each text that is accepted
abbrev pub RowsAreText : Version → List Space → List ℕ → Arrivals → Type 0
RowsAreText newest spaces bytes trace =
    trace_of newest spaces bytes ≡ Ok trace → AreRows trace (records_of bytes)

-- a trace whose records are told anew with other costs is read as its messages with these costs
abbrev pub TraceAnewIsRead : Version → List Space → List ℕ → Arrivals → List Message → Type 0
TraceAnewIsRead newest spaces bytes trace told =
    trace_of newest spaces bytes ≡ Ok trace → AreToldAnew trace.messages told
    → trace_of newest spaces (text_anew trace.version (drop 1 (records_of bytes)) told)
    ≡ Ok (record trace { messages = told })

-- a trace some of whose records are told anew, and no others, is read as the messages that they
-- tell
abbrev pub CutTraceIsRead : Version → List Space
    → List ℕ → Arrivals → List ℕ → List Message → Type 0
CutTraceIsRead newest spaces bytes trace numbers told =
    trace_of newest spaces bytes ≡ Ok trace → AreSomeToldAnew trace.messages numbers told
    → trace_of newest spaces
    (text_anew trace.version (rows_at numbers (drop 1 (records_of bytes))) told)
    ≡ Ok (record trace { messages = told })

-- of the records after the header each is read as the message at its place, where there is one
abbrev pub AreRead : Version → List Space → List Record → List Message → Type 0
AreRead version spaces rows messages =
    (k : ℕ) (row : Record) (message : Message) → slice_get rows k ≡ Some row
    → slice_get messages k ≡ Some message
    → message_at version spaces (behind first_place (take k messages)) row ≡ Ok message

-- of the records after the header the first ones are read as these messages, and the one behind
-- them is refused with this error
pub record IsFirstFault (version : Version) (spaces : List Space)
    (rows : List Record) (messages : List Message) (row : Record) (e : TraceError) : Type 0 where
  pub there : slice_get rows (length messages) ≡ Some row
  pub refused : message_at version spaces (behind first_place messages) row ≡ Err e
  pub before : AreRead version spaces rows messages

-- the header is refused with this error, or the header is one and the first faulty record after it
-- is refused with this error
abbrev pub IsRefusedTrace : Version → List Space → List Record → TraceError → Type 0
IsRefusedTrace newest spaces rows e =
    (header_of newest rows ≡ Err e)
    ⊎ ((version : Version) × (messages : List Message)
    × (row : Record) × (header_of newest rows ≡ Ok version)
    × IsFirstFault version spaces (drop 1 rows) messages row e)

-- the first faulty record decides
abbrev pub FirstFaultDecides : Version → List Space → List ℕ → Type 0
FirstFaultDecides newest spaces bytes =
    (e : TraceError) → (trace_of newest spaces bytes ≡ Err e)
    ↔ IsRefusedTrace newest spaces (records_of bytes) e

-- the header tells the version of this trace, and of the records after it each is the message at
-- its place
pub record IsReadAs (newest : Version) (spaces : List Space)
    (rows : List Record) (trace : Arrivals) : Type 0 where
  pub version : header_of newest rows ≡ Ok trace.version
  pub sizes : trace.sizes ≡ sizes_of spaces
  pub count : length trace.messages ≡ length (drop 1 rows)
  pub messages : AreRead trace.version spaces (drop 1 rows) trace.messages

-- a trace is accepted exactly where its header is one and each record after it is a message, and it
-- has these messages in order
abbrev pub TraceIsExact : Version → List Space → List ℕ → Arrivals → Type 0
TraceIsExact newest spaces bytes trace =
    (trace_of newest spaces bytes ≡ Ok trace) ↔ IsReadAs newest spaces (records_of bytes) trace

-- the bytes describe this layout: no check holds
pub record Describes (bytes : List ℕ) (layout : Hierarchy) : Type 0 where
  pub document : Data
  pub kind : Kind
  pub tree : List Node
  pub is_document : document_of bytes ≡ Some document
  pub is_kind : kind_of document ≡ Some kind
  pub is_shaped : shape_refusal document ≡ None
  pub is_tree : tree_in document ≡ Ok tree
  pub fits : kind_refusal kind tree ≡ None
  pub is_layout : layout_at kind tree document ≡ Ok layout

-- a hierarchy is accepted exactly where no check holds
abbrev pub HierarchyIsExact : List ℕ → Hierarchy → Type 0
HierarchyIsExact bytes layout = (hierarchy_of bytes ≡ Ok layout) ↔ Describes bytes layout

-- in a classical hierarchy each affinity but the root has the root as its parent
abbrev pub ClassicalHasTwoLevels : List ℕ → Hierarchy → Type 0
ClassicalHasTwoLevels bytes layout =
    hierarchy_of bytes ≡ Ok layout → layout.kind ≡ Classical
    → (affinity : ℕ) → 0 < affinity → affinity < length layout.tree
    → parent_of layout.tree affinity ≡ Some 0

-- the spaces of a hierarchy of another format than the third have no locks
abbrev pub LocksAreOfFormat3 : List ℕ → Hierarchy → Type 0
LocksAreOfFormat3 bytes layout =
    hierarchy_of bytes ≡ Ok layout → layout.format ≢ F3 → has_locks layout.spaces ≡ false

-- in one of the third no affinity is named by a hyphen, so that it tells a message of none
abbrev pub HyphenIsNoAffinity : List ℕ → Hierarchy → Type 0
HyphenIsNoAffinity bytes layout =
    hierarchy_of bytes ≡ Ok layout → layout.format ≡ F3
    → trees.number_of layout.tree (codes "-") ≡ None

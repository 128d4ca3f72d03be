-- A trace is read from the text that spells it.
use Rattle.std.proofs.Common.{◌≡◌, ℕ, ◌+◌, ◌-◌, ◌<◌, ◌≤◌, ◌^◌, List, [], ◌∷◌, ◌++◌, length, map, true, Some, Ok, refl, ap, subst, ◌∙◌, arith}
use Rattle.std.specs.Prelude.{All, codes, nat_lt}
use Rattle.std.specs.Fmt.{decimal}
use Rattle.std.specs.List.{flat_map, list_all}
use Rattle.std.specs.Str.{is_utf8}
use Rattle.std.proofs.lemmas.Bool.{le-leb, ltb-true}
use Rattle.std.proofs.lemmas.Bool.Decides.{nat_tests}
use Rattle.std.proofs.lemmas.List.Elements.{All-cons, All-head, All-nil, All-tail}
use Rattle.std.proofs.lemmas.Str.{IsUtf8-from_ascii, is_utf8-from_IsUtf8}
use Rattle.std.proofs.lemmas.Str.Ascii.{IsAscii-from_all}
use Rattle.csv.specs.Machine.{next_record}
use Rattle.csv.specs.Records.{field_at}
use Rattle.csv.specs.Reading.{strip_bom}
use Rattle.csv.specs.Writing.{default_writer, fields_text, is_blank, read_back, row_text}
use Rattle.csv.specs.declared.parser.State.TheVariants as state
use Rattle.csv.proofs.RoundTrip.{read-write}
use Rattle.waff_model.specs.Awaits.{AreLists, awaited_in}
use Rattle.waff_model.specs.Layout.{Hierarchy, IsLayout, Space}
use Rattle.waff_model.specs.Messages.{Arrivals, IsMessage, IsTrace, ops_in, sizes_of}
use Rattle.waff_model.specs.Names.{is_name_byte}
use Rattle.waff_model.specs.Versions as versions
use Rattle.waff_model.specs.Versions.{max_messages}
use Rattle.waff_model.specs.declared.awaits.Await.{Await}
use Rattle.waff_model.specs.declared.limits.TheConstants.{MAX_ALL_OPS, MAX_AWAITED}
use Rattle.waff_model.specs.declared.message.Message.{Message}
use Rattle.waff_model.specs.declared.message.Version.{Version}
use Rattle.waff_model.specs.declared.message.Version.TheVariants.{V1, V2, V3, V4}
use Rattle.waff_model.proofs.TraceLemmas.{max_messages-most}
use Rattle.waff_parse.specs.Fields.{Field}
use Rattle.waff_parse.specs.Refusals.{told}
use Rattle.waff_parse.specs.Rows.{Record, is_text, records_after, records_of}
use Rattle.waff_parse.proofs.RowLaws.{records_after-end, records_after-step}
use Rattle.waff_read.specs.Laws.{SpelledTraceIsRead}
use Rattle.waff_read.specs.Messages.{Columns, columns_with, header_row, row_of, told_version}
use Rattle.waff_read.specs.Places.{first_place, next_place}
use Rattle.waff_read.specs.Spellings.{HasSmallNumber, after_spelled, await_spelled, columns_spelled, op_spelled, ops_spelled, record_of, text_of}
use Rattle.waff_read.specs.TraceFaults.{at_record}
use Rattle.waff_read.specs.declared.place.Place.{Place}
use Rattle.waff_read.specs.Traces.{header_of, message_at, messages_at, trace_of_records}
use Rattle.waff_parse.proofs.WrittenRows.{all_if}
use Rattle.waff_read.proofs.SpellingLaws.{All-joined, IsSmall, awaits_all, decimal_all, list_is_small, name_all, ops_all, spelled_is_read}
use Rattle.waff_read.proofs.TraceLaws.{awaited_in-cons, lists-head, lists-tail, message_at-text, ops_in-cons}

-- records that are written are read, where each has a field
pub rows_read : (rows : List Record) → All (λ row. read_back row ≡ row) rows → records_after state.StartRecord (Some (flat_map (row_text default_writer) rows)) ≡ rows
unfolding next_record
rows_read [] each = records_after-end state.StartRecord [] refl
rows_read (row ∷ rows) each =
    records_after-step state.StartRecord (flat_map (row_text default_writer) (row ∷ rows)) (read_back row, state.StartRecord, flat_map (row_text default_writer) rows)
    (read-write row (flat_map (row_text default_writer) rows))
    ∙ ap (λ (first : Record). first ∷ records_after state.StartRecord (Some (flat_map (row_text default_writer) rows))) (All-head (λ row. read_back row ≡ row) row rows each)
    ∙ ap (λ (others : List Record). row ∷ others) (rows_read rows (All-tail (λ row. read_back row ≡ row) row rows each))

-- a text that begins with a header begins with no byte order mark
pub no_mark : (version : Version) (rest : List ℕ) → strip_bom (row_text default_writer (header_row version) ++ rest) ≡ row_text default_writer (header_row version) ++ rest
unfolding strip_bom is_blank fields_text
no_mark version rest = refl

pub records_of-unmarked : (text : List ℕ) → strip_bom text ≡ text → records_of text ≡ records_after state.StartRecord (Some text)
unfolding records_after
records_of-unmarked text unmarked = rw unmarked refl

pub row_back : (columns : Columns) → read_back (row_of columns) ≡ row_of columns
row_back columns = refl

records_back : (version : Version) (spaces : List Space) (messages : List Message) → All (λ row. read_back row ≡ row) (map (record_of version spaces) messages)
records_back version spaces [] = All-nil (λ (row : Record). read_back row ≡ row)
records_back version spaces (message ∷ messages) =
    All-cons (λ row. read_back row ≡ row) (record_of version spaces message) (map (record_of version spaces) messages)
    (row_back (columns_spelled version spaces message)) (records_back version spaces messages)

records_of-text : (spaces : List Space) (trace : Arrivals) → records_of (text_of spaces trace) ≡ header_row trace.version ∷ map (record_of trace.version spaces) trace.messages
records_of-text spaces trace =
    records_of-unmarked (text_of spaces trace) (no_mark trace.version (flat_map (row_text default_writer) (map (record_of trace.version spaces) trace.messages)))
    ∙ rows_read (header_row trace.version ∷ map (record_of trace.version spaces) trace.messages)
    (All-cons (λ row. read_back row ≡ row) (header_row trace.version) (map (record_of trace.version spaces) trace.messages)
    refl (records_back trace.version spaces trace.messages))

-- ASCII is text
name_is_ascii : (b : ℕ) → is_name_byte b ≡ true → b < 128
name_is_ascii b named = grind (arith, nat_tests)

ascii_is_text : (text : List ℕ) → All (λ b. b < 128) text → is_utf8 text ≡ true
ascii_is_text text each = is_utf8-from_IsUtf8 text (IsUtf8-from_ascii text (IsAscii-from_all text each))

pub literal_is_text : (text : List ℕ) → list_all (λ b. nat_lt b 128) text ≡ true → is_utf8 text ≡ true
literal_is_text text small = ascii_is_text text (all_if (λ b. b < 128) (λ b. nat_lt b 128) (λ b below. ltb-true b 128 below) text small)

pub number_is_text : (n : ℕ) → n < 2 ^ 64 → is_utf8 (decimal n) ≡ true
number_is_text n small = ascii_is_text (decimal n) (decimal_all (λ b. b < 128) name_is_ascii n small)

pub after_is_text : (list : List Await) → All IsSmall list → is_utf8 (after_spelled list) ≡ true
after_is_text list small =
    ascii_is_text (after_spelled list)
    (All-joined (λ b. b < 128) 32 (map await_spelled list) (omega arith) (awaits_all (λ b. b < 128) name_is_ascii (omega arith) list small))

pub row_is_text : (version : Version) (name cost release client think after ops : Field) → is_utf8 name ≡ true → is_utf8 cost ≡ true → is_utf8 release ≡ true
    → is_utf8 client ≡ true → is_utf8 think ≡ true → is_utf8 after ≡ true → is_utf8 ops ≡ true
    → is_text (row_of (columns_with version name cost release client think after ops)) ≡ true
row_is_text V1 name cost release client think after ops n c r k t l o = rw (n, c, o) refl
row_is_text V2 name cost release client think after ops n c r k t l o = rw (n, c, r, o) refl
row_is_text V3 name cost release client think after ops n c r k t l o = rw (n, c, r, k, t, o) refl
row_is_text V4 name cost release client think after ops n c r k t l o = rw (n, c, r, k, t, l, o) refl

header_text : (version : Version) → is_text (header_row version) ≡ true
header_text version =
    row_is_text version (codes "message") (codes "cost") (codes "release") (codes "client") (codes "think") (codes "after") (codes "ops")
    (literal_is_text (codes "message") refl) (literal_is_text (codes "cost") refl) (literal_is_text (codes "release") refl)
    (literal_is_text (codes "client") refl) (literal_is_text (codes "think") refl) (literal_is_text (codes "after") refl)
    (literal_is_text (codes "ops") refl)

header_told : (version : Version) → told_version (header_row version) ≡ Ok version
unfolding field_at
header_told V1 = refl
header_told V2 = refl
header_told V3 = refl
header_told V4 = refl

pub header_is_read : (newest version : Version) (rows : List Record) → versions.number version ≤ versions.number newest → header_of newest (header_row version ∷ rows) ≡ Ok version
header_is_read newest version rows known =
    rw (header_text version, header_told version, le-leb (versions.number version) (versions.number newest) known) refl

module _ (layout : Hierarchy) (is : IsLayout layout) where
  ops_are_text : (version : Version) (message : Message) → IsMessage version (sizes_of layout.spaces) message → All HasSmallNumber message.ops
      → is_utf8 (ops_spelled layout.spaces message.ops) ≡ true
  ops_are_text version message within small =
      ascii_is_text (ops_spelled layout.spaces message.ops)
      (All-joined (λ b. b < 128) 59 (map (op_spelled layout.spaces) message.ops) (omega arith)
      (ops_all layout is (λ b. b < 128) name_is_ascii (omega arith) (omega arith) message.ops within.cells small))

  -- the record of a message is text
  record_is_text : (version : Version) (message : Message) → IsMessage version (sizes_of layout.spaces) message → All HasSmallNumber message.ops
      → All IsSmall message.after → is_text (record_of version layout.spaces message) ≡ true
  record_is_text version message within small small_list =
      let cost : message.cost < 2 ^ 64 = omega (arith, within.within_cost) in
      let release : message.release < 2 ^ 64 = omega (arith, within.within_release) in
      let think : message.think < 2 ^ 64 = omega (arith, within.within_think) in
      row_is_text version message.name (decimal message.cost) (decimal message.release) message.client (decimal message.think)
      (after_spelled message.after) (ops_spelled layout.spaces message.ops)
      (ascii_is_text message.name (name_all (λ b. b < 128) name_is_ascii message.name within.named)) (number_is_text message.cost cost)
      (number_is_text message.release release) (ascii_is_text message.client (name_all (λ b. b < 128) name_is_ascii message.client within.named_client))
      (number_is_text message.think think) (after_is_text message.after small_list) (ops_are_text version message within small)

  -- messages are read from their records
  messages_read : (version : Version) (place : Place) (messages : List Message) → All (IsMessage version (sizes_of layout.spaces)) messages
      → All (λ message. All HasSmallNumber message.ops) messages → place.at + length messages ≤ max_messages version + 2 → place.ops + ops_in messages ≤ MAX_ALL_OPS
      → 1 ≤ place.at → AreLists (place.at - 1) messages → place.awaited + awaited_in messages ≤ MAX_AWAITED
      → messages_at version layout.spaces place (map (record_of version layout.spaces) messages) ≡ Ok messages
  unfolding messages_at
  messages_read version place [] within small few room some lists few_awaited = refl
  messages_read version place (message ∷ more) within small few room some lists few_awaited =
      let sum = ops_in-cons message more in
      let awaited = awaited_in-cons message more in
      let message_within = All-head (IsMessage version (sizes_of layout.spaces)) message more within in
      let message_small = All-head (λ message. All HasSmallNumber message.ops) message more small in
      let list = lists-head (place.at - 1) message more lists in
      let below : place.at - 1 < 2 ^ 64 = omega (arith, few, max_messages-most version) in
      let first : message_at version layout.spaces place (record_of version layout.spaces message) ≡ Ok message =
      message_at-text version layout.spaces place (record_of version layout.spaces message)
      (record_is_text version message message_within message_small (list_is_small (place.at - 1) message.after list below))
      ∙ ap (told (at_record place.at))
      (spelled_is_read layout version place message is message_within message_small (omega (arith, few)) (omega (arith, room, sum)) list (omega (arith, few_awaited, awaited))) in
      let others = messages_read version (next_place place message) more
      (All-tail (IsMessage version (sizes_of layout.spaces)) message more within)
      (All-tail (λ message. All HasSmallNumber message.ops) message more small)
      (omega (arith, few)) (omega (arith, room, sum)) (omega arith)
      (subst (λ (n : ℕ). AreLists n more) (omega (arith, some)) (lists-tail (place.at - 1) message more lists)) (omega (arith, few_awaited, awaited)) in
      rw (first, others) refl

  records_are_read : (newest : Version) (trace : Arrivals) → IsTrace trace → trace.sizes ≡ sizes_of layout.spaces → versions.number trace.version ≤ versions.number newest
      → All (λ message. All HasSmallNumber message.ops) trace.messages
      → trace_of_records newest layout.spaces (header_row trace.version ∷ map (record_of trace.version layout.spaces) trace.messages) ≡ Ok trace
  unfolding trace_of_records
  records_are_read newest trace within same known small =
      let messages = messages_read trace.version first_place trace.messages (rw same at within.messages) small (omega (arith, within.few)) (omega (arith, within.few_ops))
      (omega arith) within.lists (omega (arith, within.few_awaited)) in
      rw (header_is_read newest trace.version (map (record_of trace.version layout.spaces) trace.messages) known, messages, ← same) refl

pub spelled_trace_is_read : (newest : Version) (layout : Hierarchy) (trace : Arrivals) → SpelledTraceIsRead newest layout trace
spelled_trace_is_read newest layout trace is within same known small =
    ap (trace_of_records newest layout.spaces) (records_of-text layout.spaces trace) ∙ records_are_read layout is newest trace within same known small

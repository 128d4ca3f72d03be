-- A record without quotes is read as its fields, which end at commas and at a line feed.
use Rattle.std.proofs.Common.{◌≡◌, ℕ, zero, suc, ◌+◌, ◌<◌, ◌≤◌, List, [], ◌∷◌, ◌++◌, length, take, drop, get_or, Bool, true, false, Option, Some, None, Result, Ok, take_all, refl, sym, ap, ◌∙◌, subst, append_assoc, arith}
use Rattle.std.specs.List.{list_any}
use Rattle.std.specs.Prelude.{◌==◌, is_some, unwrap_or}
use Rattle.std.specs.Result.{result_ok}
use Rattle.std.specs.Str.{IsUtf8}
use Rattle.std.proofs.lemmas.Bool.{false_from_ne_true, or_from, or_parts}
use Rattle.std.proofs.lemmas.List.{append-nil, drop_more, take-append-drop}
use Rattle.std.proofs.lemmas.List.Folds.{list_any-append}
use Rattle.std.proofs.lemmas.Str.{is_utf8-from_IsUtf8}
use Rattle.csv.specs.Machine.{next_record}
use Rattle.csv.specs.Reading.{default_config, records}
use Rattle.csv.specs.Writing.{default_writer, fields_text, is_blank, needs_quotes, row_body}
use Rattle.csv.specs.declared.parser.State.TheVariants as st
use Rattle.csv.proofs.RoundTrip.{read-write-many}
use Rattle.memchr.specs.Find.{IsFirstByte, Nowhere, Passes, is_byte2}
use Rattle.waff_model.specs.Layout.{Space}
use Rattle.waff_model.specs.declared.message.Message.{Message}
use Rattle.waff_model.specs.declared.message.Version.{Version}
use Rattle.waff_model.specs.Versions.{has_after, has_clients, has_releases}
use Rattle.waff_parse.specs.Rows.{Record, is_text, records_after, records_of}
use Rattle.waff_parse.specs.Stopping.{Gives}
use Rattle.waff_parse.specs.declared.stop.Stop.{Stop}
use Rattle.waff_parse.proofs.RowLaws.{records_after-end, records_after-step}
use Rattle.waff_read.specs.Messages.{Columns, columns_of, columns_with, message_of_columns, only, row_of, there}
use Rattle.waff_read.specs.Plain.{IsField, IsFieldIf, IsPlain, IsRow, records_in}
use Rattle.waff_read.specs.Traces.{GivesMessage}
use Rattle.waff_read.specs.declared.place.Place.{Place}
use Rattle.waff_read.specs.declared.trace_fault.TraceFault.{TraceFault}
use Rattle.waff_read.proofs.ColumnLaws.{columns_there}
use Rattle.waff_read.proofs.HalfLaws.{read-is}
use Rattle.waff_read.proofs.LineLaws.{unmarked}
use Rattle.waff_read.proofs.TraceLaws.{gives-message}

-- a search that finds nothing, and one that finds a byte
none_before : (test : ℕ → Bool) (text : List ℕ) (i : ℕ) → ((k : ℕ) → k < i → test (get_or text k 0) ≡ false) → list_any test (take i text) ≡ false
none_before test text zero fails = refl
none_before test [] (suc i) fails = refl
none_before test (b ∷ bs) (suc i) fails = or_from (test b) (list_any test (take i bs)) (fails 0 (omega arith)) (none_before test bs i (λ k below. fails (suc k) (omega arith)))

fails_before : (test : ℕ → Bool) (text : List ℕ) (i : ℕ) → Nowhere (Passes test text) 0 i → list_any test (take i text) ≡ false
fails_before test text i nowhere = none_before test text i (λ k below. false_from_ne_true (test (get_or text k 0)) (nowhere k (omega arith) below))

pub none_is_plain : (text : List ℕ) (r : Option ℕ) → IsFirstByte (is_byte2 34 13) text r → is_some r ≡ false → IsPlain text
none_is_plain text (Some i) found is = absurd (cc is)
none_is_plain text None none is = ap (list_any (is_byte2 34 13)) (sym (take_all (length text) text (omega arith))) ∙ fails_before (is_byte2 34 13) text (length text) none

-- a text with none of the four bytes calls for no quotes
is_bare : (text : List ℕ) → list_any (is_byte2 44 10) text ≡ false → IsPlain text → needs_quotes default_writer text ≡ false
is_bare [] signs plain = refl
is_bare (b ∷ bs) signs plain =
    let sign = or_parts (is_byte2 44 10 b) (list_any (is_byte2 44 10) bs) signs in
    let quote = or_parts (is_byte2 34 13 b) (list_any (is_byte2 34 13) bs) plain in
    let first = or_parts (b == 44) (b == 10) sign.0 in
    let second = or_parts (b == 34) (b == 13) quote.0 in
    rw (first.0, first.1, second.0, second.1) (is_bare bs sign.1 quote.1)

pub sign_field : (end : ℕ) (text : List ℕ) (i : ℕ) → IsPlain text → IsFirstByte (is_byte2 44 10) text (Some i) → get_or text i 0 ≡ end → IsUtf8 (take i text)
    → IsField end text (take i text) (drop (i + 1) text)
sign_field end text i plain found here utf8 =
    let whole : text ≡ take i text ++ end ∷ drop (i + 1) text =
    sym (take-append-drop i text) ∙ ap (λ (xs : List ℕ). take i text ++ xs) (drop_more text i 0 found.0.high ∙ ap (λ (b : ℕ). b ∷ drop (i + 1) text) here) in
    let parts = or_parts (list_any (is_byte2 34 13) (take i text)) _ (sym (list_any-append (is_byte2 34 13) (take i text) (end ∷ drop (i + 1) text)) ∙ (ap (list_any (is_byte2 34 13)) (sym whole) ∙ plain)) in
    record {
      whole = whole;
      bare = is_bare (take i text) (fails_before (is_byte2 44 10) text i found.0.before) parts.0;
      is_text = is_utf8-from_IsUtf8 (take i text) utf8;
      plain = (or_parts (is_byte2 34 13 end) (list_any (is_byte2 34 13) (drop (i + 1) text)) parts.1).1;
    }

-- text is a row of text that has a field, a line feed, and rest
record IsLine (row : Record) (text rest : List ℕ) : Type 0 where
  some : 1 ≤ length row
  whole : text ≡ row_body default_writer row ++ 10 ∷ rest
  are_text : is_text row ≡ true
  plain : IsPlain rest

-- the last field of a line, a field before others, and that of a column that is there
last_field : {text field rest : List ℕ} → IsField 10 text field rest → IsLine (field ∷ []) text rest
unfolding fields_text
last_field {text} {field} {rest} f =
    record { some = omega arith; whole = rw (f.bare, append-nil field) f.whole; are_text = rw f.is_text refl; plain = f.plain }

more_fields : {text field rest end : List ℕ} (others : Record) → IsField 44 text field rest → IsLine others rest end → IsLine (field ∷ others) text end
unfolding fields_text
more_fields [] f line = let some = line.some in absurd (omega arith)
more_fields {text} {field} {rest} {end} (next ∷ others) f line =
    record {
      some = omega arith;
      whole = rw f.bare (f.whole ∙ ap (λ (xs : List ℕ). field ++ 44 ∷ xs) line.whole ∙ sym (append_assoc field (44 ∷ row_body default_writer (next ∷ others)) (10 ∷ end)));
      are_text = rw f.is_text line.are_text;
      plain = line.plain;
    }

more_if : {text rest end : List ℕ} (has : Bool) (field : Option (List ℕ)) (others : Record) → IsFieldIf has text field rest → IsLine others rest end
    → IsLine (there field ++ others) text end
more_if true (Some field) others f line = more_fields others f line
more_if false None others f line = rw f line
more_if true None others f line = absurd f
more_if false (Some field) others f line = absurd f

only_if : (has : Bool) (text : List ℕ) (field : Option (List ℕ)) (rest : List ℕ) → IsFieldIf has text field rest → field ≡ only has (unwrap_or field [])
only_if true text (Some field) rest f = refl
only_if false text None rest f = refl
only_if true text None rest f = absurd f
only_if false text (Some field) rest f = absurd f

-- a line of the columns of a version is a record
line_is_row : (version : Version) {text rest : List ℕ} (columns : Columns) → IsLine (row_of columns) text rest → columns_of version (row_of columns) ≡ Some columns
    → IsRow version text columns rest
unfolding is_blank
line_is_row version {text} {rest} columns line is =
    let others = there columns.release ++ (there columns.client ++ (there columns.think ++ (there columns.after ++ columns.ops ∷ []))) in
    let whole = line.whole ∙ sym (append_assoc (row_body default_writer (row_of columns)) (10 ∷ []) rest) in
    record {
      row = row_of columns;
      has_columns = is;
      are_text = line.are_text;
      records = records_after-step st.StartRecord text (row_of columns, st.StartRecord, rest) (rw whole (read-write-many columns.name columns.cost others rest));
      plain = line.plain;
    }

-- the fields of a line, one after the other, are those of a record
pub record AreFields (version : Version) (text : List ℕ) (columns : Columns) (rest : List ℕ) : Type 0 where
  pub behind_name : List ℕ
  pub behind_cost : List ℕ
  pub behind_release : List ℕ
  pub behind_client : List ℕ
  pub behind_think : List ℕ
  pub behind_after : List ℕ
  pub name : IsField 44 text columns.name behind_name
  pub cost : IsField 44 behind_name columns.cost behind_cost
  pub release : IsFieldIf (has_releases version) behind_cost columns.release behind_release
  pub client : IsFieldIf (has_clients version) behind_release columns.client behind_client
  pub think : IsFieldIf (has_clients version) behind_client columns.think behind_think
  pub after : IsFieldIf (has_after version) behind_think columns.after behind_after
  pub ops : IsField 10 behind_after columns.ops rest

pub fields_are_row : (version : Version) (text : List ℕ) (columns : Columns) (rest : List ℕ) → AreFields version text columns rest → IsRow version text columns rest
fields_are_row version text columns rest f =
    let after = more_if (has_after version) columns.after _ f.after (last_field f.ops) in
    let think = more_if (has_clients version) columns.think _ f.think after in
    let client = more_if (has_clients version) columns.client _ f.client think in
    let release = more_if (has_releases version) columns.release _ f.release client in
    let line = more_fields _ f.name (more_fields _ f.cost release) in
    line_is_row version columns line (subst (λ (c : Columns). columns_of version (row_of c) ≡ Some c) (sym same)
    (columns_there version columns.name columns.cost (unwrap_or columns.release []) (unwrap_or columns.client []) (unwrap_or columns.think []) (unwrap_or columns.after []) columns.ops))
  where
    same : columns ≡ columns_with version columns.name columns.cost (unwrap_or columns.release []) (unwrap_or columns.client []) (unwrap_or columns.think []) (unwrap_or columns.after []) columns.ops
    same =
        let release = only_if (has_releases version) f.behind_cost columns.release f.behind_release f.release in
        let client = only_if (has_clients version) f.behind_release columns.client f.behind_client f.client in
        let think = only_if (has_clients version) f.behind_client columns.think f.behind_think f.think in
        let after = only_if (has_after version) f.behind_think columns.after f.behind_after f.after in
        rw (← release, ← client, ← think, ← after) refl

-- its message
pub row_message : (version : Version) (spaces : List Space) (place : Place) (text rest : List ℕ) (columns : Columns) (message : Message) (r : Result Message (Stop TraceFault))
    → IsRow version text columns rest → Some message ≡ result_ok r → Gives (λ m. m) r (message_of_columns version spaces place columns)
    → GivesMessage version spaces place (Ok (Some message)) (records_in text) (records_in rest)
row_message version spaces place text rest columns message r row ok read =
    gives-message version spaces place (records_in text) row.row (records_in rest) message (row.records, row.are_text)
    (rw row.has_columns (read-is r message (message_of_columns version spaces place columns) ok read))

-- the records of a text without a byte order mark, and of none
pub records_of-text : (bytes : List ℕ) → (get_or bytes 0 0 == 0xEF) ≡ false → records_of bytes ≡ records_in bytes
unfolding records_after
records_of-text bytes other = ap (records default_config) (unmarked bytes other)

pub records_in-end : (text : List ℕ) → length text ≡ 0 → records_in text ≡ []
unfolding next_record
records_in-end [] none = records_after-end st.StartRecord [] refl
records_in-end (b ∷ bs) none = absurd (omega arith)

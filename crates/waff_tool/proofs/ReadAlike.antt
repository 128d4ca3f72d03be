-- Hierarchies of the same spaces read the same trace from a text.
use Rattle.std.proofs.Common.{◌≡◌, ℕ, Bool, true, false, List, [], ◌∷◌, drop, length, not, Option, Some, None, Result, Ok, Err, get_or, refl, sym, ◌∙◌, ap, ap₂}
use Rattle.std.specs.List.{prefix_len}
use Rattle.std.specs.Str.{bytes_eq}
use Rattle.std.proofs.lemmas.List.{length-map}
use Rattle.waff_model.specs.Layout.{Space, SameSpaces, names_of, size_at, sizes_of, space_named}
use Rattle.waff_model.specs.Names.{is_name}
use Rattle.waff_model.specs.declared.message.Message.{Message}
use Rattle.waff_model.specs.declared.message.Version.{Version}
use Rattle.waff_model.specs.declared.op.Verb.{Verb}
use Rattle.waff_model.specs.declared.op.Verb.TheVariants as verb
use Rattle.waff_model.proofs.TraceLemmas.{slice_index-sizes_of}
use Rattle.waff_parse.specs.Fields.{Field, three_of, two_of}
use Rattle.waff_parse.specs.Refusals.{both, one, pair}
use Rattle.waff_parse.specs.Rows.{Record, records_of}
use Rattle.waff_parse.specs.Texts.{blank, colon, hyphen, number_of, parts, semicolon}
use Rattle.waff_parse.specs.Walks.{gather}
use Rattle.waff_read.specs.Messages.{Columns, columns_of, message_of_columns, message_of_row}
use Rattle.waff_read.specs.Ops.{cell_and, cell_in, cell_of, cell_of_name, cell_of_parts, one_cell, op_of, op_of_verb, op_of_words, value_of, verb_named}
use Rattle.waff_read.specs.Pieces.{ops_of, piece_of, pieces_of}
use Rattle.waff_read.specs.Places.{first_place, most_ops, next_place}
use Rattle.waff_read.specs.Ranges.{ends_of, ends_of_name, range_of, range_of_three, range_of_two, range_of_words}
use Rattle.waff_read.specs.TraceFaults.{number}
use Rattle.waff_read.specs.Traces.{header_of, message_at, messages_at, trace_of, trace_of_records, trace_of_rows}
use Rattle.waff_read.specs.declared.trace_fault.TraceError.{TraceError}

-- readings of each item that are alike
gather_alike : {F A B : Type 0} (rank : F → ℕ) (f g : A → Result B F) → ((x : A) → f x ≡ g x) → (xs : List A) → gather rank f xs ≡ gather rank g xs
unfolding gather
gather_alike rank f g alike [] = refl
gather_alike rank f g alike (x ∷ xs) = ap₂ (λ r s. both rank (one r) s) (alike x) (gather_alike rank f g alike xs)

-- how many spaces stand before the one of a name, by the names alone
before_alike : (spaces others : List Space) → names_of spaces ≡ names_of others → (name : List ℕ)
    → prefix_len (λ (space : Space). not (bytes_eq name space.name)) spaces ≡ prefix_len (λ (space : Space). not (bytes_eq name space.name)) others
before_alike [] [] same name = refl
before_alike [] (other ∷ others) same name = absurd (cc same)
before_alike (space ∷ spaces) [] same name = absurd (cc same)
before_alike (space ∷ spaces) (other ∷ others) same name =
    let all : space.name ∷ names_of spaces ≡ other.name ∷ names_of others = same in
    let first : space.name ≡ other.name = cc in
    let rest : names_of spaces ≡ names_of others = cc in
    rw (first, before_alike spaces others rest name) refl

-- the place of a name
named_alike : (spaces others : List Space) → names_of spaces ≡ names_of others → (name : List ℕ) → space_named spaces name ≡ space_named others name
named_alike spaces others same name =
    let count : length spaces ≡ length others
    = sym (length-map spaces (λ (space : Space). space.name)) ∙ ap length same ∙ length-map others (λ (space : Space). space.name) in
    rw (before_alike spaces others same name, count) refl

-- the size of a space, by the sizes alone
sized_alike : (spaces others : List Space) → sizes_of spaces ≡ sizes_of others → (s : ℕ) → size_at spaces s ≡ size_at others s
sized_alike spaces others same s = sym (slice_index-sizes_of spaces s) ∙ ap (λ sizes. get_or sizes s 0) same ∙ slice_index-sizes_of others s

module _ (spaces others : List Space) (same : SameSpaces spaces others) where
  cell_in_alike : (s i : ℕ) → cell_in spaces s i ≡ cell_in others s i
  cell_in_alike s i = rw (sized_alike spaces others same.sizes s) refl

  name_at : (name index : List ℕ) (is : Bool) (i s : Option ℕ) → is_name name ≡ is → number_of index ≡ i → space_named others name ≡ s
      → cell_of_name spaces name index ≡ cell_of_name others name index
  name_at name index false i s is read at = rw is refl
  name_at name index true None s is read at = rw (is, read) refl
  name_at name index true (Some i) None is read at = rw (is, read, named_alike spaces others same.names name, at) refl
  name_at name index true (Some i) (Some s) is read at = rw (is, read, named_alike spaces others same.names name, at, cell_in_alike s i) refl

  name_alike : (name index : List ℕ) → cell_of_name spaces name index ≡ cell_of_name others name index
  name_alike name index = name_at name index (is_name name) (number_of index) (space_named others name) refl refl refl

  parts_alike : (words : List (List ℕ)) → cell_of_parts spaces words ≡ cell_of_parts others words
  parts_alike [] = refl
  parts_alike (name ∷ []) = refl
  parts_alike (name ∷ index ∷ []) = name_alike name index
  parts_alike (name ∷ index ∷ more ∷ rest) = refl

  cell_alike : (text : List ℕ) → cell_of spaces text ≡ cell_of others text
  unfolding cell_of
  cell_alike text = parts_alike (parts colon text)

  and_alike : {A : Type 0} (read also : List ℕ → Result A _) → ((text : List ℕ) → read text ≡ also text)
      → (words : List (List ℕ)) → cell_and spaces read words ≡ cell_and others also words
  and_alike read also alike [] = refl
  and_alike read also alike (cell ∷ []) = refl
  and_alike read also alike (cell ∷ second ∷ []) = ap₂ (pair number) (cell_alike cell) (alike second)
  and_alike read also alike (cell ∷ second ∷ third ∷ rest) = refl

  one_alike : (words : List (List ℕ)) → one_cell spaces words ≡ one_cell others words
  one_alike [] = refl
  one_alike (cell ∷ []) = cell_alike cell
  one_alike (cell ∷ more ∷ rest) = refl

  verb_alike : (what : Verb) (words : List (List ℕ)) → op_of_verb spaces what words ≡ op_of_verb others what words
  unfolding op_of_verb
  verb_alike verb.Set words = rw (and_alike value_of value_of (λ text. refl) words) refl
  verb_alike verb.Add words = rw (and_alike value_of value_of (λ text. refl) words) refl
  verb_alike verb.Copy words = rw (and_alike (cell_of spaces) (cell_of others) cell_alike words) refl
  verb_alike verb.Swap words = rw (and_alike (cell_of spaces) (cell_of others) cell_alike words) refl
  verb_alike verb.Read words = rw (one_alike words) refl

  verb_at : (name : List ℕ) (words : List (List ℕ)) (what : Option Verb) → verb_named name ≡ what → op_of_words spaces (name ∷ words) ≡ op_of_words others (name ∷ words)
  verb_at name words None is = rw is refl
  verb_at name words (Some what) is = rw (is, verb_alike what words) refl

  words_alike : (words : List (List ℕ)) → op_of_words spaces words ≡ op_of_words others words
  words_alike [] = refl
  words_alike (name ∷ words) = verb_at name words (verb_named name) refl

  op_alike : (piece : List ℕ) → op_of spaces piece ≡ op_of others piece
  unfolding op_of
  op_alike piece = words_alike (parts blank piece)

  ends_of_name_alike : (name first last : List ℕ) → ends_of_name spaces name first last ≡ ends_of_name others name first last
  ends_of_name_alike name first last = rw (name_alike name first, name_alike name last) refl

  hyphen_at : (text : List ℕ) (words : Field × Field) (indices : Option (Field × Field)) → two_of (parts colon text) ≡ Some words
      → two_of (parts hyphen words.1) ≡ indices → ends_of spaces text ≡ ends_of others text
  unfolding ends_of
  hyphen_at text words None is at = rw (is, at) refl
  hyphen_at text words (Some indices) is at = rw (is, at, ends_of_name_alike words.0 indices.0 indices.1) refl

  colon_at : (text : List ℕ) (words : Option (Field × Field)) → two_of (parts colon text) ≡ words → ends_of spaces text ≡ ends_of others text
  unfolding ends_of
  colon_at text None is = rw is refl
  colon_at text (Some words) is = hyphen_at text words (two_of (parts hyphen words.1)) is refl

  ends_alike : (text : List ℕ) → ends_of spaces text ≡ ends_of others text
  ends_alike text = colon_at text (two_of (parts colon text)) refl

  two_alike : (words : Field × Field) → range_of_two spaces words ≡ range_of_two others words
  two_alike words = rw (ends_alike words.1) refl

  three_alike : (words : Field × Field × Field) → range_of_three spaces words ≡ range_of_three others words
  three_alike words = rw (ends_alike words.1) refl

  range_words_alike : (three : Option (Field × Field × Field)) (two : Option (Field × Field)) → range_of_words spaces three two ≡ range_of_words others three two
  range_words_alike (Some three) two = three_alike three
  range_words_alike None (Some two) = two_alike two
  range_words_alike None None = refl

  range_alike : (piece : List ℕ) → range_of spaces piece ≡ range_of others piece
  unfolding range_of
  range_alike piece = range_words_alike (three_of (parts blank piece)) (two_of (parts blank piece))

  piece_alike : (version : Version) (piece : List ℕ) → piece_of version spaces piece ≡ piece_of version others piece
  unfolding piece_of
  piece_alike version piece = rw (range_alike piece, op_alike piece) refl

  pieces_alike : (version : Version) (text : List ℕ) → pieces_of version spaces text ≡ pieces_of version others text
  unfolding pieces_of
  pieces_alike version text = rw (gather_alike number (piece_of version spaces) (piece_of version others) (piece_alike version) (parts semicolon text)) refl

  ops_alike : (version : Version) (most : ℕ) (text : List ℕ) → ops_of version spaces most text ≡ ops_of version others most text
  unfolding ops_of
  ops_alike version most text = rw (pieces_alike version text) refl

  columns_alike : (version : Version) (place : _) (columns : Columns) → message_of_columns version spaces place columns ≡ message_of_columns version others place columns
  unfolding message_of_columns
  columns_alike version place columns = rw (ops_alike version (most_ops version place) columns.ops) refl

  row_alike : (version : Version) (place : _) (columns : Option Columns) → message_of_row version spaces place columns ≡ message_of_row version others place columns
  row_alike version place None = refl
  row_alike version place (Some columns) = columns_alike version place columns

  message_alike : (version : Version) (place : _) (row : Record) → message_at version spaces place row ≡ message_at version others place row
  unfolding message_at
  message_alike version place row = rw (row_alike version place (columns_of version row)) refl

  message_before : (version : Version) (place : _) (row : Record) (rows : List Record)
      → ((message : Message) → messages_at version spaces (next_place place message) rows ≡ messages_at version others (next_place place message) rows)
      → (read : Result Message TraceError) → message_at version others place row ≡ read
      → messages_at version spaces place (row ∷ rows) ≡ messages_at version others place (row ∷ rows)
  unfolding messages_at
  message_before version place row rows alike (Err e) is = rw (message_alike version place row, is) refl
  message_before version place row rows alike (Ok message) is = rw (message_alike version place row, is, alike message) refl

  messages_alike : (version : Version) (place : _) (rows : List Record) → messages_at version spaces place rows ≡ messages_at version others place rows
  unfolding messages_at
  messages_alike version place [] = refl
  messages_alike version place (row ∷ rows) =
      message_before version place row rows (λ message. messages_alike version (next_place place message) rows) (message_at version others place row) refl

  rows_alike : (version : Version) (rows : List Record) → trace_of_rows version spaces rows ≡ trace_of_rows version others rows
  rows_alike version rows = rw (messages_alike version first_place rows, same.sizes) refl

  version_at : (newest : Version) (rows : List Record) (read : Result Version TraceError) → header_of newest rows ≡ read
      → trace_of_records newest spaces rows ≡ trace_of_records newest others rows
  unfolding trace_of_records
  version_at newest rows (Err e) is = rw is refl
  version_at newest rows (Ok version) is = rw (is, rows_alike version (drop 1 rows)) refl

  records_alike : (newest : Version) (rows : List Record) → trace_of_records newest spaces rows ≡ trace_of_records newest others rows
  records_alike newest rows = version_at newest rows (header_of newest rows) refl

-- the same trace
pub read_alike : (newest : Version) (spaces others : List Space) (bytes : List ℕ) → SameSpaces spaces others
    → trace_of newest spaces bytes ≡ trace_of newest others bytes
read_alike newest spaces others bytes same = records_alike spaces others same newest (records_of bytes)

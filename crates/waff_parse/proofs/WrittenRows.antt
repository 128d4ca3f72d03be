-- What is written is read: numbers in decimal, texts joined by a byte that is in none of them, and lines of fields that need
-- no quotes.
use Rattle.std.proofs.Common.{◌≡◌, ℕ, zero, suc, ◌<◌, ◌≤◌, ◌^◌, List, [], ◌∷◌, ◌++◌, length, map, get_or, Bool, true, false, Some, refl, sym, ap, ◌∙◌, arith, rules}
use Rattle.std.specs.Prelude.{All, nat_lt, not, ◌==◌, ◌&&◌}
use Rattle.std.specs.Char.{is_ascii_digit}
use Rattle.std.specs.Fmt.{decimal}
use Rattle.std.specs.List.{flat_map, join_by, join_with_byte, list_all}
use Rattle.std.specs.Str.{bytes_eq, is_utf8}
use Rattle.std.specs.Str.Parse.{digits_value}
use Rattle.std.proofs.lemmas.Bool.{and_parts, and_right, both_ways, eq-eqb, eqb-true, false_from_ne_true, le-ltb, ltb-true, ne_eqb, not-true}
use Rattle.std.proofs.lemmas.Bool.Decides.{nat_tests}
use Rattle.std.proofs.lemmas.Fmt.{decimal_digit, decimal_nonempty, digits_decimal, digits_value-decimal, first_decimal}
use Rattle.std.proofs.lemmas.List.{append-nil}
use Rattle.std.proofs.lemmas.List.Elements.{All-append, All-cons, All-head, All-nil, All-tail}
use Rattle.std.proofs.lemmas.List.Splits.{slice_split_at, slice_split_none}
use Rattle.std.proofs.lemmas.Slice.Eq.{bytes_eq-Decides}
use Rattle.std.proofs.lemmas.Str.{IsUtf8-from_ascii, is_utf8-from_IsUtf8}
use Rattle.std.proofs.lemmas.Str.Ascii.{IsAscii-from_all}
use Rattle.std.proofs.lemmas.Str.Parse.{IsDigitsTest, IsNumeralModel, numerals_by_value}
use Rattle.csv.specs.Machine.{next_record}
use Rattle.csv.specs.Reading.{strip_bom}
use Rattle.csv.specs.Writing.{default_writer, field_text, fields_text, is_blank, needs_byte, needs_quotes, read_back, row_body, row_text}
use Rattle.csv.specs.declared.parser.State.TheVariants as state
use Rattle.csv.proofs.RoundTrip.{read-write}
use Rattle.waff_parse.specs.Rows.{Record, is_text, records_after, records_of}
use Rattle.waff_parse.specs.Texts.{has_leading_zero, number_of, number_within, parts}
use Rattle.waff_parse.proofs.RowLaws.{records_after-end, records_after-step}

-- what holds of each byte that passes a test holds of the bytes of a text that pass it
pub all_if : (P : ℕ → Type 0) (test : ℕ → Bool) → ((b : ℕ) → test b ≡ true → P b) → (text : List ℕ) → list_all test text ≡ true → All P text
all_if P test each [] passes = All-nil P
all_if P test each (b ∷ bs) passes =
    let parts = and_parts (test b) (list_all test bs) passes in
    All-cons P b bs (each b parts.0) (all_if P test each bs parts.1)

-- numbers in decimal
digits_test : IsDigitsTest (λ ds. list_all is_ascii_digit ds ≡ true)
digits_test = search rules

pub digits_model : IsNumeralModel (λ ds. list_all is_ascii_digit ds ≡ true) (digits_value 10)
digits_model = numerals_by_value _ digits_test

no_leading_zero : (n : ℕ) → n < 2 ^ 64 → has_leading_zero (decimal n) ≡ false
no_leading_zero zero small =
    let one : decimal zero ≡ 48 ∷ [] = decimal_digit 0 (omega arith) in
    rw one refl
no_leading_zero (suc n) small =
    let first : 48 < get_or (decimal (suc n)) 0 0 = first_decimal (suc n) (omega arith) small in
    and_right (nat_lt 1 (length (decimal (suc n)))) (get_or (decimal (suc n)) 0 0 == 48)
    (ne_eqb (get_or (decimal (suc n)) 0 0) 48 (λ same. absurd (omega arith)))

pub some_digits : (n : ℕ) → n < 2 ^ 64 → (length (decimal n) == 0) ≡ false
some_digits n small =
    let filled : 0 < length (decimal n) = decimal_nonempty n small in
    ne_eqb (length (decimal n)) 0 (λ none. absurd (omega arith))

pub number_of-decimal : (n : ℕ) → n < 2 ^ 64 → number_of (decimal n) ≡ Some n
number_of-decimal n small =
    let some = some_digits n small in
    let lead = no_leading_zero n small in
    let digits = digits_decimal digits_model n small in
    rw (some, lead, digits) (ap Some (digits_value-decimal digits_model n small))

pub number_within-decimal : (low high n : ℕ) → n < 2 ^ 64 → low ≤ n → n ≤ high → number_within low high (decimal n) ≡ Some n
number_within-decimal low high n small from to = rw (number_of-decimal n small, le-ltb n low from, le-ltb high n to) refl

pub decimal_all : (P : ℕ → Type 0) → ((b : ℕ) → is_ascii_digit b ≡ true → P b) → (n : ℕ) → n < 2 ^ 64 → All P (decimal n)
decimal_all P digit n small = all_if P is_ascii_digit digit (decimal n) (digits_decimal digits_model n small)

-- a number is no text that has another byte than digits
pub decimal_differs : (text : List ℕ) → list_all is_ascii_digit text ≡ false → (n : ℕ) → n < 2 ^ 64 → bytes_eq (decimal n) text ≡ false
decimal_differs text other n small =
    false_from_ne_true (bytes_eq (decimal n) text)
    (λ same. both_ways (list_all is_ascii_digit text) other
    (ap (λ ds. list_all is_ascii_digit ds) (sym ((bytes_eq-Decides (decimal n) text).0 same)) ∙ digits_decimal digits_model n small))

-- a byte that is no digit is in no number
not_in_decimal : (c : ℕ) → is_ascii_digit c ≡ false → (n : ℕ) → n < 2 ^ 64 → All (λ b. (b == c) ≡ false) (decimal n)
not_in_decimal c out n small =
    decimal_all (λ b. (b == c) ≡ false)
    (λ b digit. false_from_ne_true (b == c) (λ same. both_ways (is_ascii_digit c) out (ap is_ascii_digit (sym (eqb-true b c same)) ∙ digit))) n small

-- numbers joined by a byte that is no digit are the parts between that byte
pub parts-numbers : (c : ℕ) → is_ascii_digit c ≡ false → (n : ℕ) (more : List ℕ) → All (λ m. m < 2 ^ 64) (n ∷ more)
    → parts c (join_by decimal (c ∷ []) (n ∷ more)) ≡ map decimal (n ∷ more)
parts-numbers c out n [] small =
    let here = not_in_decimal c out n (All-head (λ m. m < 2 ^ 64) n [] small) in
    ap (parts c) (append-nil (decimal n)) ∙ slice_split_none (λ b. b == c) (decimal n) here
parts-numbers c out n (m ∷ more) small =
    let here = not_in_decimal c out n (All-head (λ m. m < 2 ^ 64) n (m ∷ more) small) in
    slice_split_at (λ b. b == c) (decimal n) c (join_by decimal (c ∷ []) (m ∷ more)) here (eq-eqb c c refl)
    ∙ ap (λ (l : List (List ℕ)). decimal n ∷ l) (parts-numbers c out m more (All-tail (λ m. m < 2 ^ 64) n (m ∷ more) small))

-- bytes below 128 that call for no quotes
abbrev pub is_simple : ℕ → Bool
is_simple b = not (needs_byte default_writer b) && nat_lt b 128

abbrev pub IsSimple : List ℕ → Type 0
IsSimple text = All (λ b. is_simple b ≡ true) text

pub simple_literal : (text : List ℕ) → list_all is_simple text ≡ true → IsSimple text
simple_literal text passes = all_if (λ b. is_simple b ≡ true) is_simple (λ b is. is) text passes

digit_is_simple : (b : ℕ) → is_ascii_digit b ≡ true → is_simple b ≡ true
digit_is_simple b digit = grind (arith, nat_tests)

pub simple_decimal : (n : ℕ) → n < 2 ^ 64 → IsSimple (decimal n)
simple_decimal n small = decimal_all (λ b. is_simple b ≡ true) digit_is_simple n small

pub simple_numbers : (c : ℕ) → is_simple c ≡ true → (numbers : List ℕ) → All (λ m. m < 2 ^ 64) numbers → IsSimple (join_by decimal (c ∷ []) numbers)
simple_numbers c simple [] small = All-nil (λ b. is_simple b ≡ true)
simple_numbers c simple (n ∷ more) small =
    All-append (λ b. is_simple b ≡ true) (decimal n) (flat_map (λ m. (c ∷ []) ++ decimal m) more)
    (simple_decimal n (All-head (λ m. m < 2 ^ 64) n more small)) (others more (All-tail (λ m. m < 2 ^ 64) n more small))
  where
    others : (more : List ℕ) → All (λ m. m < 2 ^ 64) more → IsSimple (flat_map (λ m. (c ∷ []) ++ decimal m) more)
    others [] small = All-nil (λ b. is_simple b ≡ true)
    others (m ∷ more) small =
        All-append (λ b. is_simple b ≡ true) (c ∷ decimal m) (flat_map (λ m. (c ∷ []) ++ decimal m) more)
        (All-cons (λ b. is_simple b ≡ true) c (decimal m) simple (simple_decimal m (All-head (λ m. m < 2 ^ 64) m more small)))
        (others more (All-tail (λ m. m < 2 ^ 64) m more small))

-- such a text is text, and is written without quotes
below : (b : ℕ) → is_simple b ≡ true → b < 128
below b simple = ltb-true b 128 (and_parts (not (needs_byte default_writer b)) (nat_lt b 128) simple).1

pub simple_is_text : (text : List ℕ) → IsSimple text → is_utf8 text ≡ true
simple_is_text text simple =
    is_utf8-from_IsUtf8 text (IsUtf8-from_ascii text (IsAscii-from_all text (λ k d within. below (get_or text k d) (simple k d within))))

no_quotes : (text : List ℕ) → IsSimple text → needs_quotes default_writer text ≡ false
no_quotes [] simple = refl
no_quotes (b ∷ bs) simple =
    let here = and_parts (not (needs_byte default_writer b)) (nat_lt b 128) (All-head (λ b. is_simple b ≡ true) b bs simple) in
    rw (not-true (needs_byte default_writer b) here.0, no_quotes bs (All-tail (λ b. is_simple b ≡ true) b bs simple)) refl

written_bare : (text : List ℕ) → IsSimple text → field_text default_writer text ≡ text
written_bare text simple = rw (no_quotes text simple) refl

-- a row of two fields or more, none of which calls for quotes
pub record IsBare (row : Record) : Type 0 where
  pub some : 2 ≤ length row
  pub each : All IsSimple row

bare_body : (first : List ℕ) (more : List (List ℕ)) → All IsSimple (first ∷ more) → row_body default_writer (first ∷ more) ≡ join_with_byte 44 (first ∷ more)
unfolding fields_text
bare_body first [] each = append-nil (field_text default_writer first) ∙ written_bare first (All-head IsSimple first [] each)
bare_body first (next ∷ more) each =
    ap (λ text. text ++ (44 ∷ row_body default_writer (next ∷ more))) (written_bare first (All-head IsSimple first (next ∷ more) each))
    ∙ ap (λ body. first ++ (44 ∷ body)) (bare_body next more (All-tail IsSimple first (next ∷ more) each))

-- such a row is written as its fields joined by commas, and a line feed
pub bare_row : (row : Record) → IsBare row → join_with_byte 44 row ++ 10 ∷ [] ≡ row_text default_writer row
unfolding is_blank
bare_row [] bare = let some = bare.some in absurd (omega arith)
bare_row (first ∷ []) bare = let some = bare.some in absurd (omega arith)
bare_row (first ∷ next ∷ more) bare = ap (λ body. body ++ 10 ∷ []) (sym (bare_body first (next ∷ more) bare.each))

pub bare_rows : (rows : List Record) → All IsBare rows → flat_map (λ row. join_with_byte 44 row ++ 10 ∷ []) rows ≡ flat_map (row_text default_writer) rows
bare_rows [] each = refl
bare_rows (row ∷ rows) each =
    ap (λ text. text ++ flat_map (λ row. join_with_byte 44 row ++ 10 ∷ []) rows) (bare_row row (All-head IsBare row rows each))
    ∙ ap (λ text. row_text default_writer row ++ text) (bare_rows rows (All-tail IsBare row rows each))

bare_back : (row : Record) → IsBare row → read_back row ≡ row
bare_back [] bare = let some = bare.some in absurd (omega arith)
bare_back (first ∷ more) bare = refl

-- such rows are read
rows_read : (rows : List Record) → All IsBare rows → records_after state.StartRecord (Some (flat_map (row_text default_writer) rows)) ≡ rows
unfolding next_record
rows_read [] each = records_after-end state.StartRecord [] refl
rows_read (row ∷ rows) each =
    records_after-step state.StartRecord (flat_map (row_text default_writer) (row ∷ rows)) (read_back row, state.StartRecord, flat_map (row_text default_writer) rows)
    (read-write row (flat_map (row_text default_writer) rows))
    ∙ ap (λ (first : Record). first ∷ records_after state.StartRecord (Some (flat_map (row_text default_writer) rows))) (bare_back row (All-head IsBare row rows each))
    ∙ ap (λ (others : List Record). row ∷ others) (rows_read rows (All-tail IsBare row rows each))

records_of-unmarked : (text : List ℕ) → strip_bom text ≡ text → records_of text ≡ records_after state.StartRecord (Some text)
unfolding records_after
records_of-unmarked text unmarked = rw unmarked refl

pub records_of-rows : (rows : List Record) → All IsBare rows
    → strip_bom (flat_map (λ row. join_with_byte 44 row ++ 10 ∷ []) rows) ≡ flat_map (λ row. join_with_byte 44 row ++ 10 ∷ []) rows
    → records_of (flat_map (λ row. join_with_byte 44 row ++ 10 ∷ []) rows) ≡ rows
records_of-rows rows each unmarked =
    records_of-unmarked (flat_map (λ row. join_with_byte 44 row ++ 10 ∷ []) rows) unmarked
    ∙ ap (λ text. records_after state.StartRecord (Some text)) (bare_rows rows each)
    ∙ rows_read rows each

-- such a row is text
pub bare_is_text : (row : Record) → All IsSimple row → is_text row ≡ true
bare_is_text [] each = refl
bare_is_text (field ∷ row) each =
    rw (simple_is_text field (All-head IsSimple field row each), bare_is_text row (All-tail IsSimple field row each)) refl

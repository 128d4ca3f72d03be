-- A text that is parted by a byte that no number and no cell has is neither; words and verbs of an operation.
use Rattle.std.proofs.Common.{◌≡◌, ℕ, List, [], ◌∷◌, ◌++◌, ◌∙◌, Bool, true, false, Option, Some, None, Result, Ok, Err, refl, sym, ap, append_assoc}
use Rattle.std.specs.Prelude.{All, IfErr, codes, ok_or, nat_le, nat_lt, not, length, ◌==◌, ◌&&◌, ◌||◌, if◌then◌else◌}
use Rattle.std.specs.Char.{is_ascii_digit}
use Rattle.std.specs.List.{join_with_byte, list_all}
use Rattle.std.specs.Str.{bytes_eq}
use Rattle.std.specs.Str.Pattern.{FindsTextPrefix, StripsPrefix}
use Rattle.std.proofs.lemmas.Slice.Eq.{bytes_eq-Decides}
use Rattle.std.proofs.lemmas.Bool.{and_parts, and_right, both_ways, eqb-true, false_from_ne_true}
use Rattle.std.proofs.lemmas.List.Elements.{All-cons, All-nil}
use Rattle.std.proofs.lemmas.List.Folds.{list_all-append}
use Rattle.std.proofs.lemmas.List.Splits.{join_with_byte-slice_split, slice_split_none}
use Rattle.waff_model.specs.Layout.{Space, size_at, space_named}
use Rattle.waff_model.specs.Names.{is_name, is_name_byte}
use Rattle.waff_model.specs.declared.cell.Cell.{Cell}
use Rattle.waff_model.specs.declared.limits.TheConstants.{MAX_NAME}
use Rattle.waff_model.specs.declared.op.Verb.{Verb}
use Rattle.waff_model.specs.declared.op.Verb.TheVariants as verb
use Rattle.waff_parse.specs.Refusals.{◌>>=◌, least, pair}
use Rattle.waff_parse.specs.Texts.{has_leading_zero, number_of, parts}
use Rattle.waff_parse.proofs.TextLaws.{parts-cons}
use Rattle.waff_read.specs.Ops.{cell_and, cell_in, cell_of, cell_of_name, cell_of_parts, one_cell, op_of, op_of_verb, op_of_words, value_of, verb_named}
use Rattle.waff_read.specs.TraceFaults.{number}
use Rattle.waff_read.specs.declared.trace_fault.TraceFault.{TraceFault}
use Rattle.waff_read.specs.declared.trace_fault.TraceFault.TheVariants as fault

-- what passes a test passes a wider one
pub all_wider : (p q : ℕ → Bool) → ((b : ℕ) → p b ≡ true → q b ≡ true) → (text : List ℕ) → list_all p text ≡ true → list_all q text ≡ true
all_wider p q wider [] h = refl
all_wider p q wider (b ∷ bs) h =
    let both = and_parts (p b) (list_all p bs) h in
    rw (wider b both.0, all_wider p q wider bs both.1) refl

-- bytes that pass a test that c fails are not c
pub all_other : (c : ℕ) (p : ℕ → Bool) → p c ≡ false → (text : List ℕ) → list_all p text ≡ true → All (λ b. (b == c) ≡ false) text
all_other c p fails [] h = All-nil (λ b. (b == c) ≡ false)
all_other c p fails (b ∷ bs) h =
    let both = and_parts (p b) (list_all p bs) h in
    All-cons (λ b. (b == c) ≡ false) b bs (false_from_ne_true (b == c) (λ same. both_ways (p c) fails (ap p (sym (eqb-true b c same)) ∙ both.0))) (all_other c p fails bs both.1)

-- where a byte parts a text, not all of it passes a test that the byte fails
parted_fails : (c : ℕ) (p : ℕ → Bool) → p c ≡ false → (text a b : List ℕ) (more : List (List ℕ)) → parts c text ≡ a ∷ b ∷ more → list_all p text ≡ false
parted_fails c p fails text a b more e =
    false_from_ne_true (list_all p text) (λ passes.
    let whole : parts c text ≡ text ∷ [] = slice_split_none (λ b. b == c) text (all_other c p fails text passes) in
    absurd (cc (sym whole ∙ e)))

-- a text of one part is that part
pub part_is : (c : ℕ) (text a : List ℕ) → parts c text ≡ a ∷ [] → a ≡ text
part_is c text a e = ap (λ (ps : List (List ℕ)). join_with_byte c ps) (sym e) ∙ join_with_byte-slice_split c text

-- a text of two parts is both with the byte between
two_parts : (c : ℕ) (text a b : List ℕ) → parts c text ≡ a ∷ b ∷ [] → a ++ c ∷ b ≡ text
two_parts c text a b e = ap (λ (ps : List (List ℕ)). join_with_byte c ps) (sym e) ∙ join_with_byte-slice_split c text

-- a text that is not all digits is no number
pub no_digits : (text : List ℕ) → list_all is_ascii_digit text ≡ false → number_of text ≡ None
no_digits text h =
    let inner = and_right (not (has_leading_zero text)) (list_all is_ascii_digit text) h in
    rw (and_right (not (length text == 0)) (not (has_leading_zero text) && list_all is_ascii_digit text) inner) refl

pub no_number : (c : ℕ) → is_ascii_digit c ≡ false → (text a b : List ℕ) (more : List (List ℕ)) → parts c text ≡ a ∷ b ∷ more → number_of text ≡ None
no_number c out text a b more e = no_digits text (parted_fails c is_ascii_digit out text a b more e)

-- a text that a space parts is no number below 2^64
no_value : (text a b : List ℕ) (more : List (List ℕ)) → parts 32 text ≡ a ∷ b ∷ more → value_of text ≡ Err fault.Op
unfolding value_of
no_value text a b more e = rw (no_number 32 refl text a b more e) refl

-- the bytes of a cell
abbrev in_cell : ℕ → Bool
in_cell b = is_name_byte b || (is_ascii_digit b || (b == 58))

named_in : (b : ℕ) → is_name_byte b ≡ true → in_cell b ≡ true
named_in b h = rw h refl

digit_in : (b : ℕ) → is_ascii_digit b ≡ true → in_cell b ≡ true
digit_in b h = by (is_name_byte b)
  where
    by : (named : Bool) → (named || (is_ascii_digit b || (b == 58))) ≡ true
    by true = refl
    by false = rw h refl

-- a name and an index, of which one has another byte
no_named_cell : (spaces : List Space) (name index : List ℕ) → list_all in_cell (name ++ 58 ∷ index) ≡ false → cell_of_name spaces name index ≡ Err fault.Op
no_named_cell spaces name index fails = by (is_name name) refl (list_all is_ascii_digit index) refl
  where
    by : (named : Bool) → is_name name ≡ named → (digits : Bool) → list_all is_ascii_digit index ≡ digits → cell_of_name spaces name index ≡ Err fault.Op
    by false h digits e = rw h refl
    by true h false e = rw (h, no_digits index e) refl
    by true h true e =
        let letters = and_parts (nat_le 1 (length name) && nat_le (length name) MAX_NAME) (list_all is_name_byte name) h in
        let front = all_wider is_name_byte in_cell named_in name letters.1 in
        let back = all_wider is_ascii_digit in_cell digit_in index e in
        let whole : list_all in_cell (name ++ 58 ∷ index) ≡ true = list_all-append in_cell name (58 ∷ index) ∙ rw (front, back) refl in
        absurd (both_ways (list_all in_cell (name ++ 58 ∷ index)) fails whole)

-- a text that a space parts is no cell
no_cell : (spaces : List Space) (text a b : List ℕ) (more : List (List ℕ)) → parts 32 text ≡ a ∷ b ∷ more → cell_of spaces text ≡ Err fault.Op
unfolding cell_of
no_cell spaces text a b more e = by (parts 58 text) refl
  where
    by : (words : List (List ℕ)) → parts 58 text ≡ words → cell_of_parts spaces words ≡ Err fault.Op
    by [] is = refl
    by (name ∷ []) is = refl
    by (name ∷ index ∷ []) is =
        no_named_cell spaces name index (rw (two_parts 58 text name index is) (parted_fails 32 in_cell refl text a b more e))
    by (name ∷ index ∷ third ∷ others) is = refl

no_index : (spaces : List Space) (name index : List ℕ) → number_of index ≡ None → cell_of_name spaces name index ≡ Err fault.Op
no_index spaces name index none = by (is_name name) refl
  where
    by : (named : Bool) → is_name name ≡ named → cell_of_name spaces name index ≡ Err fault.Op
    by false h = rw h refl
    by true h = rw (h, none) refl

-- a cell is the name before the first `:` and the index after it
pub cell_of_two : (spaces : List Space) (text name index : List ℕ) → parts 58 text ≡ name ∷ parts 58 index → cell_of spaces text ≡ cell_of_name spaces name index
unfolding cell_of
cell_of_two spaces text name index e = rw e (by (parts 58 index) refl)
  where
    by : (words : List (List ℕ)) → parts 58 index ≡ words → cell_of_parts spaces (name ∷ words) ≡ cell_of_name spaces name index
    by [] is =
        let some = parts-cons 58 index in
        absurd (cc (sym is ∙ some.2))
    by (x ∷ []) is = ap (λ (i : List ℕ). cell_of_name spaces name i) (part_is 58 index x is)
    by (x ∷ y ∷ more) is = sym (no_index spaces name index (no_number 58 refl index x y more is))

-- no fault of a cell counts before a misspelling
abbrev NotBefore : TraceFault → Type 0
NotBefore d = least number d fault.Op ≡ fault.Op

cell_in-fault : (spaces : List Space) (space index : ℕ) → IfErr (cell_in spaces space index) NotBefore
cell_in-fault spaces space index = by (nat_lt index (size_at spaces space))
  where
    by : (b : Bool) → IfErr {T = Cell} (if b then Ok (record { space = space; index = index }) else Err fault.IndexTooLarge) NotBefore
    by true = tt
    by false = refl

cell_of-fault : (spaces : List Space) (text : List ℕ) → IfErr (cell_of spaces text) NotBefore
unfolding cell_of
cell_of-fault spaces text = by (parts 58 text)
  where
    named : (name index : List ℕ) (b : Bool) (i s : Option ℕ) → IfErr (if b then (do
      n ← ok_or i fault.Op
      space ← ok_or s fault.SpaceUnknown
      cell_in spaces space n) else Err fault.Op) NotBefore
    named name index false i s = refl
    named name index true None s = refl
    named name index true (Some n) None = refl
    named name index true (Some n) (Some space) = cell_in-fault spaces space n

    by : (words : List (List ℕ)) → IfErr (cell_of_parts spaces words) NotBefore
    by [] = refl
    by (name ∷ []) = refl
    by (name ∷ index ∷ []) = named name index (is_name name) (number_of index) (space_named spaces name)
    by (name ∷ index ∷ more ∷ others) = refl

-- beside a misspelling no other fault is told
beside : {A : Type 0} (c : Result Cell TraceFault) (r : Result A TraceFault) → IfErr c NotBefore → r ≡ Err fault.Op → pair number c r ≡ Err fault.Op
beside (Ok c) r h e = rw e refl
beside (Err d) r h e = rw e (ap (λ (f : TraceFault). Err f) h)

-- two words are the one before the first space and the text after it, where what has a space is not read as a word
two_words : {A : Type 0} (spaces : List Space) (read : List ℕ → Result A TraceFault)
    → ((text a b : List ℕ) (more : List (List ℕ)) → parts 32 text ≡ a ∷ b ∷ more → read text ≡ Err fault.Op)
    → (words first rest : List ℕ) → parts 32 words ≡ first ∷ parts 32 rest → pair number (cell_of spaces first) (read rest) ≡ cell_and spaces read (parts 32 words)
two_words spaces read none words first rest e = rw e (by (parts 32 rest) refl)
  where
    by : (others : List (List ℕ)) → parts 32 rest ≡ others → pair number (cell_of spaces first) (read rest) ≡ cell_and spaces read (first ∷ others)
    by [] is =
        let some = parts-cons 32 rest in
        absurd (cc (sym is ∙ some.2))
    by (x ∷ []) is = ap (λ (second : List ℕ). pair number (cell_of spaces first) (read second)) (sym (part_is 32 rest x is))
    by (x ∷ y ∷ more) is = beside (cell_of spaces first) (read rest) (cell_of-fault spaces first) (none rest x y more is)

pub cell_and_value : (spaces : List Space) (words first rest : List ℕ) → parts 32 words ≡ first ∷ parts 32 rest
    → pair number (cell_of spaces first) (value_of rest) ≡ cell_and spaces value_of (parts 32 words)
cell_and_value spaces words first rest e = two_words spaces value_of no_value words first rest e

pub two_cells : (spaces : List Space) (words first rest : List ℕ) → parts 32 words ≡ first ∷ parts 32 rest
    → pair number (cell_of spaces first) (cell_of spaces rest) ≡ cell_and spaces (cell_of spaces) (parts 32 words)
two_cells spaces words first rest e = two_words spaces (cell_of spaces) (no_cell spaces) words first rest e

pub one_word : (spaces : List Space) (word : List ℕ) → cell_of spaces word ≡ one_cell spaces (parts 32 word)
one_word spaces word = by (parts 32 word) refl
  where
    by : (words : List (List ℕ)) → parts 32 word ≡ words → cell_of spaces word ≡ one_cell spaces words
    by [] is =
        let some = parts-cons 32 word in
        absurd (cc (sym is ∙ some.2))
    by (x ∷ []) is = ap (λ (cell : List ℕ). cell_of spaces cell) (sym (part_is 32 word x is))
    by (x ∷ y ∷ more) is = no_cell spaces word x y more is

-- a piece that begins with the name of a verb and a space
pub begins : (name piece words : List ℕ) → StripsPrefix (FindsTextPrefix name) piece words → piece ≡ name ++ words
begins name piece words h = h.1.1 ∙ ap (λ (rest : List ℕ). name ++ rest) (sym h.2)

-- the first of two words or more is no name with which, and a space, the piece does not begin
other_name : (name piece first second : List ℕ) (more : List (List ℕ)) → FindsTextPrefix (name ++ 32 ∷ []) piece None → parts 32 piece ≡ first ∷ second ∷ more
    → bytes_eq first name ≡ false
other_name name piece first second more lacks e =
    false_from_ne_true (bytes_eq first name) (λ same.
    let is : first ≡ name = (bytes_eq-Decides first name).0 same in
    let rest = join_with_byte 32 (second ∷ more) in
    let whole : first ++ 32 ∷ rest ≡ piece = ap (λ (ps : List (List ℕ)). join_with_byte 32 ps) (sym e) ∙ join_with_byte-slice_split 32 piece in
    lacks rest (sym whole ∙ (ap (λ (front : List ℕ). front ++ 32 ∷ rest) is ∙ sym (append_assoc name (32 ∷ []) rest))))

-- no verb is one without words
no_words : (spaces : List Space) (found : Option Verb) → Err fault.Op ≡ (ok_or found fault.Op >>= (λ v. op_of_verb spaces v []))
unfolding op_of_verb
no_words spaces None = refl
no_words spaces (Some verb.Set) = refl
no_words spaces (Some verb.Add) = refl
no_words spaces (Some verb.Copy) = refl
no_words spaces (Some verb.Swap) = refl
no_words spaces (Some verb.Read) = refl

-- a piece that begins with no name of a verb and a space is no operation
pub no_verb : (spaces : List Space) (piece : List ℕ) → FindsTextPrefix (codes "set ") piece None → FindsTextPrefix (codes "add ") piece None
    → FindsTextPrefix (codes "copy ") piece None → FindsTextPrefix (codes "swap ") piece None → FindsTextPrefix (codes "read ") piece None
    → Err fault.Op ≡ op_of spaces piece
unfolding op_of
no_verb spaces piece set add copy swap read = by (parts 32 piece) refl
  where
    by : (words : List (List ℕ)) → parts 32 piece ≡ words → Err fault.Op ≡ op_of_words spaces words
    by [] is = refl
    by (name ∷ []) is = no_words spaces (verb_named name)
    by (name ∷ word ∷ more) is =
        rw (
          other_name (codes "set") piece name word more set is,
          other_name (codes "add") piece name word more add is,
          other_name (codes "copy") piece name word more copy is,
          other_name (codes "swap") piece name word more swap is,
          other_name (codes "read") piece name word more read is,
        ) refl

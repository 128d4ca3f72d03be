-- A message is read from the record that spells it.
use Rattle.std.proofs.Common.{◌≡◌, ◌≢◌, ℕ, ◌+◌, ◌-◌, ◌<◌, ◌≤◌, ◌^◌, List, [], ◌∷◌, ◌++◌, length, map, get_or, Bool, true, false, Some, Result, Ok, Err, slice_get, refl, sym, ap, ◌∙◌, arith, inl, inr}
use Rattle.std.specs.Prelude.{All, codes, unwrap_or, ◌==◌, if◌then◌else◌}
use Rattle.std.specs.Char.{is_ascii_digit}
use Rattle.std.specs.Fmt.{decimal}
use Rattle.std.specs.List.{flat_map, join_with_byte, list_all, position_or_len}
use Rattle.std.specs.Str.{bytes_eq}
use Rattle.std.proofs.lemmas.Bool.{and_parts, both_ways, cases_lt, eq-eqb, eqb-true, false_from_ne_true, lt-ltb}
use Rattle.std.proofs.lemmas.Bool.Decides.{nat_tests}
use Rattle.std.proofs.lemmas.Fmt.{digits_decimal}
use Rattle.std.proofs.lemmas.List.{length-map}
use Rattle.std.proofs.lemmas.List.Elements.{All-append, All-cons, All-head, All-nil, All-tail, All-get_or}
use Rattle.std.proofs.lemmas.List.Splits.{slice_split_at, slice_split_none}
use Rattle.std.proofs.lemmas.List.Sums.{position_or_len_is}
use Rattle.std.proofs.lemmas.Option.{slice_get-get_or, slice_get_past}
use Rattle.std.proofs.lemmas.Slice.Eq.{bytes_eq-Decides}
use Rattle.waff_model.specs.Awaits.{IsList}
use Rattle.waff_model.specs.Cells.{LiesIn, cells_of, cells_of_op}
use Rattle.waff_model.proofs.LayoutLemmas.{size_below}
use Rattle.waff_model.specs.Layout.{Hierarchy, IsCell, IsLayout, IsSpace, Space, name_at, size_at, space_named}
use Rattle.waff_model.specs.Messages.{IsMessage, sizes_of}
use Rattle.waff_model.specs.Names.{is_name, is_name_byte}
use Rattle.waff_model.specs.declared.cell.Cell.{Cell}
use Rattle.waff_model.specs.Versions.{has_after, has_clients, has_releases, max_messages}
use Rattle.waff_model.specs.declared.awaits.Await.{Await}
use Rattle.waff_model.specs.declared.limits.TheConstants.{MAX_ALL_OPS, MAX_AWAITED}
use Rattle.waff_model.specs.declared.locking.Locking.TheVariants.{Unlocked}
use Rattle.waff_model.specs.declared.message.Message.{Message}
use Rattle.waff_model.specs.declared.message.Version.{Version}
use Rattle.waff_model.specs.declared.op.Op.{Op}
use Rattle.waff_model.specs.declared.op.Op.TheVariants as op
use Rattle.waff_model.proofs.TraceLemmas.{lies_in-sizes_of, max_messages-most}
use Rattle.waff_parse.specs.Fields.{Field}
use Rattle.waff_parse.specs.Texts.{parts}
use Rattle.waff_parse.proofs.WrittenRows.{all_if, digits_model, number_of-decimal}
use Rattle.waff_read.specs.Awaits.{await_of, await_of_parts}
use Rattle.waff_read.specs.Laws.{IsAfter, IsClient, IsRelease, IsThink, SpellAwaits, Spells, SpelledIsRead}
use Rattle.waff_read.specs.Messages.{Columns, only}
use Rattle.waff_read.specs.Ops.{cell_of, op_of, op_of_verb, op_of_words, value_of}
use Rattle.waff_read.specs.Pieces.{piece_of}
use Rattle.waff_read.specs.Places.{most_awaited}
use Rattle.waff_read.specs.Ranges.{range_of}
use Rattle.waff_read.specs.Spellings.{HasSmallNumber, after_spelled, await_spelled, cell_spelled, columns_spelled, op_spelled, ops_spelled, record_of, words_of}
use Rattle.waff_read.specs.declared.place.Place.{Place}
use Rattle.waff_read.specs.declared.trace_fault.TraceFault.{TraceFault}
use Rattle.waff_read.specs.declared.trace_fault.TraceFault.TheVariants as fault
use Rattle.waff_read.proofs.ColumnLaws.{columns_there}
use Rattle.waff_read.proofs.ExactLaws.{record_is_exact}
use Rattle.waff_read.proofs.MessageLaws.{fits-most}
use Rattle.waff_read.proofs.OpsLaws.{piece-op}

-- what holds of the bytes of texts, and of the byte that joins them, holds of the bytes of the whole
pub All-join : (P : ℕ → Type 0) (d : ℕ) (p : List ℕ) (ps : List (List ℕ)) → P d → All P p → All (All P) ps → All P (join_with_byte d (p ∷ ps))
All-join P d p [] joint here rest = here
All-join P d p (q ∷ qs) joint here rest =
    All-append P p (d ∷ join_with_byte d (q ∷ qs)) here
    (All-cons P d (join_with_byte d (q ∷ qs)) joint (All-join P d q qs joint (All-head (All P) q qs rest) (All-tail (All P) q qs rest)))

-- another byte than c
abbrev IsOther : ℕ → ℕ → Type 0
IsOther c b = (b == c) ≡ false

abbrev Free : ℕ → List ℕ → Type 0
Free c text = All (IsOther c) text

-- parts that are joined by a byte that is in none of them are the parts between that byte
pub parts-join : (c : ℕ) (p : List ℕ) (ps : List (List ℕ)) → Free c p → All (Free c) ps → parts c (join_with_byte c (p ∷ ps)) ≡ p ∷ ps
parts-join c p [] here rest = slice_split_none (λ b. b == c) p here
parts-join c p (q ∷ qs) here rest =
    slice_split_at (λ b. b == c) p c (join_with_byte c (q ∷ qs)) here (eq-eqb c c refl)
    ∙ ap (λ (l : List (List ℕ)). p ∷ l) (parts-join c q qs (All-head (Free c) q qs rest) (All-tail (Free c) q qs rest))

pub All-joined : (P : ℕ → Type 0) (d : ℕ) (ps : List (List ℕ)) → P d → All (All P) ps → All P (join_with_byte d ps)
All-joined P d [] joint each = All-nil P
All-joined P d (p ∷ ps) joint each = All-join P d p ps joint (All-head (All P) p ps each) (All-tail (All P) p ps each)

parts-joined : (c : ℕ) (ps : List (List ℕ)) → 1 ≤ length ps → All (Free c) ps → parts c (join_with_byte c ps) ≡ ps
parts-joined c [] some each = absurd (omega arith)
parts-joined c (p ∷ ps) some each = parts-join c p ps (All-head (Free c) p ps each) (All-tail (Free c) p ps each)

-- a byte that no name has
names_other : (c : ℕ) → is_name_byte c ≡ false → (b : ℕ) → is_name_byte b ≡ true → IsOther c b
names_other c out b named =
    false_from_ne_true (b == c) (λ same. both_ways (is_name_byte c) out (ap is_name_byte (sym (eqb-true b c same)) ∙ named))

-- what holds of each of two lists in a row holds of each of them
All-both : {A : Type 0} (P : A → Type 0) (xs ys : List A) → All P (xs ++ ys) → All P xs × All P ys
All-both P [] ys each = (All-nil P, each)
All-both P (x ∷ xs) ys each =
    let rest = All-both P xs ys (All-tail P x (xs ++ ys) each) in
    (All-cons P x xs (All-head P x (xs ++ ys) each) rest.0, rest.1)

-- a number is read from its digits
value_of-decimal : (n : ℕ) → n < 2 ^ 64 → value_of (decimal n) ≡ Ok n
unfolding value_of
value_of-decimal n small = rw (number_of-decimal n small, lt-ltb n (2 ^ 64) small) refl

-- what holds of the bytes of names holds of those of a name, of a verb and of a number
module _ (P : ℕ → Type 0) (names : (b : ℕ) → is_name_byte b ≡ true → P b) where
  pub name_all : (name : List ℕ) → is_name name ≡ true → All P name
  name_all name named = all_if P is_name_byte names name (and_parts _ (list_all is_name_byte name) named).1

  verb_all : (verb : List ℕ) → list_all is_name_byte verb ≡ true → All P verb
  verb_all verb named = all_if P is_name_byte names verb named

  digit_is : (b : ℕ) → is_ascii_digit b ≡ true → P b
  digit_is b digit = names b (rw digit refl)

  pub decimal_all : (n : ℕ) → n < 2 ^ 64 → All P (decimal n)
  decimal_all n small = all_if P is_ascii_digit digit_is (decimal n) (digits_decimal digits_model n small)

pub All-two : {A : Type 0} (Q : A → Type 0) (x y : A) → Q x → Q y → All Q (x ∷ y ∷ [])
All-two Q x y h k = All-cons Q x (y ∷ []) h (All-cons Q y [] k (All-nil Q))

pub All-three : {A : Type 0} (Q : A → Type 0) (x y z : A) → Q x → Q y → Q z → All Q (x ∷ y ∷ z ∷ [])
All-three Q x y z h k l = All-cons Q x (y ∷ z ∷ []) h (All-two Q y z k l)

-- numbers of messages and gaps are small
abbrev pub IsSmall : Await → Type 0
IsSmall a = (a.message < 2 ^ 64) × (a.gap < 2 ^ 64)

pub list_is_small : (n : ℕ) (list : List Await) → IsList n list → n < 2 ^ 64 → All IsSmall list
list_is_small n list is small k d inside = (omega (arith, is.earlier k d inside, small), omega (arith, is.gaps k d inside))

-- what holds of the bytes of names, of `+` and of the space holds of those of a list
module _ (P : ℕ → Type 0) (names : (b : ℕ) → is_name_byte b ≡ true → P b) (joint : P 43) where
  await_all : (a : Await) → IsSmall a → All P (await_spelled a)
  await_all a small = by (a.gap == 0)
    where
      by : (b : Bool) → All P (if b then decimal a.message else join_with_byte 43 (decimal a.message ∷ decimal a.gap ∷ []))
      by true = decimal_all P names a.message small.0
      by false =
          All-join P 43 (decimal a.message) (decimal a.gap ∷ []) joint (decimal_all P names a.message small.0)
          (All-cons (All P) (decimal a.gap) [] (decimal_all P names a.gap small.1) (All-nil (All P)))

  pub awaits_all : (list : List Await) → All IsSmall list → All (All P) (map await_spelled list)
  awaits_all [] small = All-nil (All P)
  awaits_all (a ∷ list) small =
      All-cons (All P) (await_spelled a) (map await_spelled list) (await_all a (All-head IsSmall a list small)) (awaits_all list (All-tail IsSmall a list small))

-- a message that is awaited is read from its piece
await_is_read : (a : Await) → IsSmall a → await_of (await_spelled a) ≡ Ok a
unfolding await_of
await_is_read a small = by (a.gap == 0) refl
  where
    free : (n : ℕ) → n < 2 ^ 64 → Free 43 (decimal n)
    free n small = decimal_all (IsOther 43) (names_other 43 refl) n small

    by : (b : Bool) → (a.gap == 0) ≡ b → await_of_parts (parts 43 (if b then decimal a.message else join_with_byte 43 (decimal a.message ∷ decimal a.gap ∷ []))) ≡ Ok a
    by true none =
        let gap : a.gap ≡ 0 = eqb-true a.gap 0 none in
        rw (parts-join 43 (decimal a.message) [] (free a.message small.0) (All-nil (Free 43)), number_of-decimal a.message small.0, ← gap) refl
    by false some =
        rw (
          parts-join 43 (decimal a.message) (decimal a.gap ∷ []) (free a.message small.0) (All-cons (Free 43) (decimal a.gap) [] (free a.gap small.1) (All-nil (Free 43))),
          number_of-decimal a.message small.0,
          number_of-decimal a.gap small.1,
        ) refl

awaits_are_read : (list : List Await) → All IsSmall list → map await_of (map await_spelled list) ≡ map Ok list
awaits_are_read [] small = refl
awaits_are_read (a ∷ list) small =
    ap (λ (r : Result Await TraceFault). r ∷ map await_of (map await_spelled list)) (await_is_read a (All-head IsSmall a list small))
    ∙ ap (λ (l : List (Result Await TraceFault)). Ok a ∷ l) (awaits_are_read list (All-tail IsSmall a list small))

empty_await : await_of [] ≡ Err fault.After
unfolding await_of
empty_await = refl

-- pieces that spell messages are no empty text
pieces_spell : (text : Field) (a : Await) (list : List Await) → map await_of (parts 32 text) ≡ map Ok (a ∷ list) → SpellAwaits text (a ∷ list)
pieces_spell [] a list each = let read = rw empty_await at each in absurd (cc)
pieces_spell (b ∷ bs) a list each = each

pub after_is_spelled : (n : ℕ) (list : List Await) → IsList n list → n < 2 ^ 64 → SpellAwaits (after_spelled list) list
after_is_spelled n [] is small = refl
after_is_spelled n (a ∷ list) is small =
    let each = list_is_small n (a ∷ list) is small in
    pieces_spell (after_spelled (a ∷ list)) a list
    (ap (map await_of) (parts-joined 32 (map await_spelled (a ∷ list)) (omega arith) (awaits_all (IsOther 32) (names_other 32 refl) refl (a ∷ list) each))
    ∙ awaits_are_read (a ∷ list) each)

abbrev no_space : Space
no_space = record { name = []; size = 0; unit = 0; to = []; locks = Unlocked }

-- the name of the space s
abbrev name_in : List Space → ℕ → List ℕ
name_in spaces s = unwrap_or (name_at spaces s) []

-- cells of a layout
module _ (layout : Hierarchy) (is : IsLayout layout) where
  space_inside : (s index : ℕ) → index < size_at layout.spaces s → s < length layout.spaces
  space_inside s index lies = elim (cases_lt s (length layout.spaces)) [
    | inl inside ↦ inside
    | inr past ↦
        let none = slice_get_past layout.spaces s past in
        let small : index < 0 = rw none at lies in
        absurd (omega arith)
  ]

  pub space_is : (s : ℕ) → s < length layout.spaces → slice_get layout.spaces s ≡ Some (get_or layout.spaces s no_space)
  space_is s inside = slice_get-get_or layout.spaces s no_space inside

  name_is : (s : ℕ) → s < length layout.spaces → name_in layout.spaces s ≡ (get_or layout.spaces s no_space).name
  name_is s inside = rw (space_is s inside) refl

  space_at : (s : ℕ) → s < length layout.spaces → IsSpace layout.format layout.tree (get_or layout.spaces s no_space)
  space_at s inside = All-get_or (IsSpace layout.format layout.tree) layout.spaces s no_space inside is.each

  pub space_has_name : (s : ℕ) → s < length layout.spaces → is_name (name_in layout.spaces s) ≡ true
  space_has_name s inside = rw (name_is s inside) (space_at s inside).named

  small_index : (s index : ℕ) → index < size_at layout.spaces s → index < 2 ^ 64
  small_index s index lies =
      let inside = space_inside s index lies in
      let below : index < (get_or layout.spaces s no_space).size = rw (space_is s inside) at lies in
      omega (arith, (space_at s inside).size, size_below layout.format)

  -- a space is found by its name
  pub space_found : (s : ℕ) → s < length layout.spaces → space_named layout.spaces (name_in layout.spaces s) ≡ Some s
  space_found s inside =
      let first : position_or_len (λ space. bytes_eq (name_in layout.spaces s) space.name) layout.spaces ≡ s =
      position_or_len_is (λ space. bytes_eq (name_in layout.spaces s) space.name) layout.spaces s no_space (omega arith)
      (λ k below. false_from_ne_true _ (λ same.
      is.different k s no_space below inside
      (sym (sym (name_is s inside) ∙ (bytes_eq-Decides (name_in layout.spaces s) (get_or layout.spaces k no_space).name).0 same))))
      (λ _. (bytes_eq-Decides (name_in layout.spaces s) (get_or layout.spaces s no_space).name).1 (name_is s inside)) in
      grind (arith, nat_tests, first)

  -- the bytes of a cell are those of names and `:`
  cell_all : (P : ℕ → Type 0) → ((b : ℕ) → is_name_byte b ≡ true → P b) → P 58 → (cell : Cell) → IsCell layout.spaces cell → All P (cell_spelled layout.spaces cell)
  cell_all P names colon cell lies =
      All-join P 58 (name_in layout.spaces cell.space) (decimal cell.index ∷ []) colon
      (name_all P names (name_in layout.spaces cell.space) (space_has_name cell.space (space_inside cell.space cell.index lies)))
      (All-cons (All P) (decimal cell.index) [] (decimal_all P names cell.index (small_index cell.space cell.index lies)) (All-nil (All P)))

  cell_is_read : (cell : Cell) → IsCell layout.spaces cell → cell_of layout.spaces (cell_spelled layout.spaces cell) ≡ Ok cell
  unfolding cell_of
  cell_is_read cell lies =
      let inside = space_inside cell.space cell.index lies in
      let small = small_index cell.space cell.index lies in
      let words = parts-join 58 (name_in layout.spaces cell.space) (decimal cell.index ∷ [])
      (name_all (IsOther 58) (names_other 58 refl) (name_in layout.spaces cell.space) (space_has_name cell.space inside))
      (All-cons (Free 58) (decimal cell.index) [] (decimal_all (IsOther 58) (names_other 58 refl) cell.index small) (All-nil (Free 58))) in
      rw (words, space_has_name cell.space inside, number_of-decimal cell.index small, space_found cell.space inside, lt-ltb cell.index (size_at layout.spaces cell.space) lies) refl

  first_cell : (cell : Cell) (more : List Cell) → All (LiesIn (sizes_of layout.spaces)) (cell ∷ more) → IsCell layout.spaces cell
  first_cell cell more lie = lies_in-sizes_of layout.spaces cell (All-head (LiesIn (sizes_of layout.spaces)) cell more lie)

  second_cell : (cell other : Cell) → All (LiesIn (sizes_of layout.spaces)) (cell ∷ other ∷ []) → IsCell layout.spaces other
  second_cell cell other lie = first_cell other [] (All-tail (LiesIn (sizes_of layout.spaces)) cell (other ∷ []) lie)

  -- the bytes of an operation's words are those of names and `:`
  words_all : (P : ℕ → Type 0) → ((b : ℕ) → is_name_byte b ≡ true → P b) → P 58 → (o : Op) → All (LiesIn (sizes_of layout.spaces)) (cells_of_op o) → HasSmallNumber o
      → All (All P) (words_of layout.spaces o)
  words_all P names colon (op.Set cell value) lie small =
      All-three (All P) (codes "set") (cell_spelled layout.spaces cell) (decimal value)
      (verb_all P names (codes "set") refl) (cell_all P names colon cell (first_cell cell [] lie)) (decimal_all P names value small)
  words_all P names colon (op.Add cell value) lie small =
      All-three (All P) (codes "add") (cell_spelled layout.spaces cell) (decimal value)
      (verb_all P names (codes "add") refl) (cell_all P names colon cell (first_cell cell [] lie)) (decimal_all P names value small)
  words_all P names colon (op.Copy cell source) lie small =
      All-three (All P) (codes "copy") (cell_spelled layout.spaces cell) (cell_spelled layout.spaces source)
      (verb_all P names (codes "copy") refl) (cell_all P names colon cell (first_cell cell (source ∷ []) lie)) (cell_all P names colon source (second_cell cell source lie))
  words_all P names colon (op.Swap cell other) lie small =
      All-three (All P) (codes "swap") (cell_spelled layout.spaces cell) (cell_spelled layout.spaces other)
      (verb_all P names (codes "swap") refl) (cell_all P names colon cell (first_cell cell (other ∷ []) lie)) (cell_all P names colon other (second_cell cell other lie))
  words_all P names colon (op.Read cell) lie small =
      All-two (All P) (codes "read") (cell_spelled layout.spaces cell)
      (verb_all P names (codes "read") refl) (cell_all P names colon cell (first_cell cell [] lie))

  op_all : (P : ℕ → Type 0) → ((b : ℕ) → is_name_byte b ≡ true → P b) → P 58 → P 32 → (o : Op) → All (LiesIn (sizes_of layout.spaces)) (cells_of_op o) → HasSmallNumber o
      → All P (op_spelled layout.spaces o)
  op_all P names colon space o lie small = All-joined P 32 (words_of layout.spaces o) space (words_all P names colon o lie small)

  -- the words of an operation are the parts between its spaces
  op_words : (o : Op) → All (LiesIn (sizes_of layout.spaces)) (cells_of_op o) → HasSmallNumber o → 1 ≤ length (words_of layout.spaces o)
      → parts 32 (op_spelled layout.spaces o) ≡ words_of layout.spaces o
  op_words o lie small some = parts-joined 32 (words_of layout.spaces o) some (words_all (IsOther 32) (names_other 32 refl) refl o lie small)

  op_is_read : (o : Op) → All (LiesIn (sizes_of layout.spaces)) (cells_of_op o) → HasSmallNumber o → op_of layout.spaces (op_spelled layout.spaces o) ≡ Ok o
  unfolding op_of op_of_verb
  op_is_read (op.Set cell value) lie small =
      let lies = first_cell cell [] lie in
      ap (op_of_words layout.spaces) (op_words (op.Set cell value) lie small (omega arith))
      ∙ rw (cell_is_read cell lies, value_of-decimal value small) refl
  op_is_read (op.Add cell value) lie small =
      let lies = first_cell cell [] lie in
      ap (op_of_words layout.spaces) (op_words (op.Add cell value) lie small (omega arith))
      ∙ rw (cell_is_read cell lies, value_of-decimal value small) refl
  op_is_read (op.Copy cell source) lie small =
      let lies = first_cell cell (source ∷ []) lie in
      let source_lies = second_cell cell source lie in
      ap (op_of_words layout.spaces) (op_words (op.Copy cell source) lie small (omega arith))
      ∙ rw (cell_is_read cell lies, cell_is_read source source_lies) refl
  op_is_read (op.Swap cell other) lie small =
      let lies = first_cell cell (other ∷ []) lie in
      let other_lies = second_cell cell other lie in
      ap (op_of_words layout.spaces) (op_words (op.Swap cell other) lie small (omega arith))
      ∙ rw (cell_is_read cell lies, cell_is_read other other_lies) refl
  op_is_read (op.Read cell) lie small =
      let lies = first_cell cell [] lie in
      ap (op_of_words layout.spaces) (op_words (op.Read cell) lie small (omega arith))
      ∙ rw (cell_is_read cell lies) refl

  -- operations that are spelled are read
  pub ops_all : (P : ℕ → Type 0) → ((b : ℕ) → is_name_byte b ≡ true → P b) → P 58 → P 32 → (list : List Op) → All (LiesIn (sizes_of layout.spaces)) (cells_of list)
      → All HasSmallNumber list → All (All P) (map (op_spelled layout.spaces) list)
  ops_all P names colon space [] lie small = All-nil (All P)
  ops_all P names colon space (o ∷ list) lie small =
      let both = All-both (LiesIn (sizes_of layout.spaces)) (cells_of_op o) (cells_of list) lie in
      All-cons (All P) (op_spelled layout.spaces o) (map (op_spelled layout.spaces) list)
      (op_all P names colon space o both.0 (All-head HasSmallNumber o list small))
      (ops_all P names colon space list both.1 (All-tail HasSmallNumber o list small))

  ops_parts : (list : List Op) → 1 ≤ length list → All (LiesIn (sizes_of layout.spaces)) (cells_of list) → All HasSmallNumber list
      → parts 59 (ops_spelled layout.spaces list) ≡ map (op_spelled layout.spaces) list
  ops_parts list some lie small =
      parts-joined 59 (map (op_spelled layout.spaces) list) (rw length-map some)
      (ops_all (IsOther 59) (names_other 59 refl) refl refl list lie small)

  piece_is_read : (version : Version) (o : Op) → All (LiesIn (sizes_of layout.spaces)) (cells_of_op o) → HasSmallNumber o
      → piece_of version layout.spaces (op_spelled layout.spaces o) ≡ Ok (o ∷ [])
  piece_is_read version o lie small = sym (piece-op version layout.spaces (op_spelled layout.spaces o) o (sym (op_is_read o lie small)))

  -- each operation in a list of its own
  abbrev lone : Op → List Op
  lone o = o ∷ []

  each_is_read : (version : Version) (list : List Op) → All (LiesIn (sizes_of layout.spaces)) (cells_of list) → All HasSmallNumber list
      → map (piece_of version layout.spaces) (map (op_spelled layout.spaces) list) ≡ map Ok (map lone list)
  each_is_read version [] lie small = refl
  each_is_read version (o ∷ list) lie small =
      let both = All-both (LiesIn (sizes_of layout.spaces)) (cells_of_op o) (cells_of list) lie in
      let first = piece_is_read version o both.0 (All-head HasSmallNumber o list small) in
      let others = each_is_read version list both.1 (All-tail HasSmallNumber o list small) in
      ap (λ (r : Result (List Op) TraceFault). r ∷ map (piece_of version layout.spaces) (map (op_spelled layout.spaces) list)) first
      ∙ ap (λ (l : List (Result (List Op) TraceFault)). Ok (o ∷ []) ∷ l) others

  lone_joined : (list : List Op) → list ≡ flat_map (λ list. list) (map lone list)
  lone_joined [] = refl
  lone_joined (o ∷ list) = ap (λ (l : List Op). o ∷ l) (lone_joined list)

  -- the empty text spells no operation
  empty_piece : op_of layout.spaces [] ≡ Err fault.Op
  unfolding op_of
  empty_piece = refl

  empty_range : range_of layout.spaces [] ≡ Err fault.Op
  unfolding range_of
  empty_range = refl

  empty_fault : (version : Version) → piece_of version layout.spaces [] ≡ Err fault.Op
  unfolding piece_of
  empty_fault version = rw (empty_piece, empty_range) (by (has_clients version))
    where
      by : (b : Bool) → ◌≡◌ {A = Result (List Op) TraceFault} (if b then Err fault.Op else Err fault.Op) (Err fault.Op)
      by true = refl
      by false = refl

  filled_text : (version : Version) (lists : List (List Op)) (text : Field) → map (piece_of version layout.spaces) (parts 59 text) ≡ map Ok lists → text ≢ []
  filled_text version [] text each none = let read = rw none at each in absurd (cc)
  filled_text version (list ∷ lists) text each none =
      let read = rw (none, empty_fault version) at each in absurd (cc)

  spells : (version : Version) (place : Place) (message : Message) (columns : Columns) → IsMessage version (sizes_of layout.spaces) message → All HasSmallNumber message.ops
      → place.at ≤ max_messages version + 1 → place.ops + length message.ops ≤ MAX_ALL_OPS
      → columns.name ≡ message.name → columns.cost ≡ decimal message.cost → columns.ops ≡ ops_spelled layout.spaces message.ops
      → IsRelease columns.release message.release → IsClient columns.client message.client → IsThink columns.think message.think
      → IsAfter (place.at - 1) columns.after message.after → length message.after ≤ most_awaited place
      → Spells version layout.spaces place columns message
  spells version place message columns within small counted room is_name is_cost are_ops released named_client thought listed few_awaited =
      let read : map (piece_of version layout.spaces) (parts 59 (ops_spelled layout.spaces message.ops)) ≡ map Ok (map lone message.ops) =
      ap (map (piece_of version layout.spaces)) (ops_parts message.ops within.some_ops within.cells small)
      ∙ each_is_read version message.ops within.cells small in
      let cost : message.cost < 2 ^ 64 = omega (arith, within.within_cost) in
      record {
        named = rw is_name within.named;
        name = sym is_name;
        cost = rw is_cost (number_of-decimal message.cost cost);
        some_cost = within.some_cost;
        within_cost = within.within_cost;
        filled = rw are_ops (filled_text version (map lone message.ops) (ops_spelled layout.spaces message.ops) read);
        ops = rw are_ops (map lone message.ops, read, lone_joined message.ops);
        within_ops = fits-most version place (length message.ops) within.within_ops room;
        counted = counted;
        release = released;
        client = named_client;
        think = thought;
        after = listed;
        within_after = few_awaited;
      }

columns_spell : (layout : Hierarchy) (is : IsLayout layout) (version : Version) (place : Place) (message : Message) → IsMessage version (sizes_of layout.spaces) message
    → All HasSmallNumber message.ops → place.at ≤ max_messages version + 1 → place.ops + length message.ops ≤ MAX_ALL_OPS
    → IsList (place.at - 1) message.after → place.awaited + length message.after ≤ MAX_AWAITED
    → Spells version layout.spaces place (columns_spelled version layout.spaces message) message
columns_spell layout is version place message within small counted room list room_awaited =
    spells layout is version place message (columns_spelled version layout.spaces message) within small counted room refl refl refl
    (released (has_releases version) refl) (named_client (has_clients version) refl) (thought (has_clients version) refl) (listed (has_after version) refl) (omega (arith, room_awaited))
  where
    released : (b : Bool) → has_releases version ≡ b → IsRelease (only b (decimal message.release)) message.release
    released true has = (number_of-decimal message.release (omega (arith, within.within_release)), within.within_release)
    released false none = within.no_release none

    named_client : (b : Bool) → has_clients version ≡ b → IsClient (only b message.client) message.client
    named_client true has = (within.named_client, refl)
    named_client false none = within.no_client none

    thought : (b : Bool) → has_clients version ≡ b → IsThink (only b (decimal message.think)) message.think
    thought true has = (number_of-decimal message.think (omega (arith, within.within_think)), within.within_think)
    thought false none = within.no_think none

    listed : (b : Bool) → has_after version ≡ b → IsAfter (place.at - 1) (only b (after_spelled message.after)) message.after
    listed true has = (after_is_spelled (place.at - 1) message.after list (omega (arith, counted, max_messages-most version)), list)
    listed false none = within.no_list none

pub spelled_is_read : (layout : Hierarchy) (version : Version) (place : Place) (message : Message) → SpelledIsRead layout version place message
spelled_is_read layout version place message is within small counted room list room_awaited =
    (record_is_exact version layout.spaces place (record_of version layout.spaces message) message).1 (
      columns_spelled version layout.spaces message,
      columns_there version message.name (decimal message.cost) (decimal message.release) message.client (decimal message.think) (after_spelled message.after) (ops_spelled layout.spaces message.ops),
      columns_spell layout is version place message within small counted room list room_awaited,
    )

-- Of the checks that hold of a record, the one of least number is told.
use Rattle.std.proofs.Common.{◌≡◌, ◌≢◌, ℕ, zero, suc, ◌+◌, ◌-◌, ◌<◌, ◌≤◌, List, [], ◌∷◌, length, Bool, true, false, Option, Some, None, Result, Ok, Err, refl, sym, ap, ◌∙◌, arith, inl, inr, ◌⊎◌}
use Rattle.std.specs.Prelude.{Contains, IfErr, codes, ok_or, option_and_then, nat_le, nat_lt, ◌==◌, if◌then◌else◌}
use Rattle.std.specs.List.{flat_map}
use Rattle.std.specs.Str.{bytes_eq}
use Rattle.std.proofs.lemmas.Bool.{both_ways, cases_lt, leb-true, leb-false, ltb-true, ltb-false, eqb-true, eqb-false}
use Rattle.waff_model.specs.Awaits.{IsList}
use Rattle.waff_model.specs.Layout.{Space, size_at, space_named}
use Rattle.waff_model.specs.Names.{is_name}
use Rattle.waff_model.specs.Versions.{has_clients, max_messages}
use Rattle.waff_model.specs.declared.awaits.Await.{Await}
use Rattle.waff_model.specs.declared.cell.Cell.{Cell}
use Rattle.waff_model.specs.declared.limits.TheConstants.{MAX_COST, MAX_RELEASE, MAX_THINK}
use Rattle.waff_model.specs.declared.message.Message.{Message}
use Rattle.waff_model.specs.declared.message.Version.{Version}
use Rattle.waff_model.specs.declared.op.Op.{Op}
use Rattle.waff_model.specs.declared.op.Op.TheVariants as op
use Rattle.waff_model.specs.declared.op.Verb.{Verb}
use Rattle.waff_model.specs.declared.op.Verb.TheVariants as verb
use Rattle.waff_parse.specs.Fields.{Field, three_of, two_of}
use Rattle.waff_parse.specs.Refusals.{◌>>=◌, both, one, pair}
use Rattle.waff_parse.specs.Texts.{are_rising, number_of, number_within, parts, small}
use Rattle.waff_parse.specs.Walks.{gather}
use Rattle.waff_read.specs.Awaits.{after_of, are_between, awaits_of, list_of}
use Rattle.waff_read.specs.Laws.{HasPiece, HasTraceFault, IsAfter, IsLeastCheck, LeastCheckDecides, SpellAwaits, SpellOps}
use Rattle.waff_read.specs.Messages.{Columns, client_of, cost_of, counted, message_of_columns, name_of, release_of, think_of}
use Rattle.waff_read.specs.Ops.{cell_and, cell_of, cell_of_name, cell_of_parts, one_cell, op_of, op_of_verb, op_of_words, value_of, verb_named}
use Rattle.waff_read.specs.Pieces.{joined, ops_of, or_range, piece_of, pieces_of}
use Rattle.waff_read.specs.Places.{most_awaited, most_ops}
use Rattle.waff_read.specs.Ranges.{ends_of, ops_of_range, range_of, range_of_words, range_to}
use Rattle.waff_read.specs.TraceFaults.{number}
use Rattle.waff_read.specs.declared.place.Place.{Place}
use Rattle.waff_read.specs.declared.range.Deed.TheVariants as deed
use Rattle.waff_read.specs.declared.range.Range.{Range}
use Rattle.waff_read.specs.declared.trace_fault.TraceFault.{TraceFault}
use Rattle.waff_read.specs.declared.trace_fault.TraceFault.TheVariants as fault
use Rattle.waff_read.proofs.AwaitLaws.{are_list, awaits_of-fault, list_are}
use Rattle.waff_read.proofs.ExactLaws.{awaits_of-read, counted-read, gather-read, name_of-read, read-awaits_of, read-gather}

-- an element of a list with a head is the head, or one of the others
contains_cases : {A : Type 0} (a : A) (xs : List A) (x : A) → Contains (a ∷ xs) x → (a ≡ x) ⊎ Contains xs x
contains_cases a xs x (zero, inside, same) = inl same
contains_cases a xs x (suc k, inside, same) = inr (k, omega arith, same)

contains_head : {A : Type 0} (a : A) (xs : List A) → Contains (a ∷ xs) a
contains_head a xs = (0, omega arith, refl)

contains_tail : {A : Type 0} (a : A) (xs : List A) (x : A) → Contains xs x → Contains (a ∷ xs) x
contains_tail a xs x (k, inside, same) = (suc k, omega arith, same)

module _ {F A B : Type 0} (rank : F → ℕ) (f : A → Result B F) where
  -- where a list is gathered, no item is refused
  gather-none : (xs : List A) (bs : List B) → gather rank f xs ≡ Ok bs → (x : A) (d : F) → Contains xs x → f x ≡ Err d → ⊥
  unfolding gather
  gather-none [] bs h x d (k, inside, same) refused = omega arith
  gather-none (a ∷ xs) bs h x d there refused = by (f a) (gather rank f xs) refl h (gather-none xs) (contains_cases a xs x there)
    where
      by : (r : Result B F) (rs : Result (List B) F) → f a ≡ r → both rank (one r) rs ≡ Ok bs
          → ((cs : List B) → rs ≡ Ok cs → (x : A) (d : F) → Contains xs x → f x ≡ Err d → ⊥) → (a ≡ x) ⊎ Contains xs x → ⊥
      by (Ok b) (Ok cs) is e rest (inl same) = let here = ap f same in cc
      by (Ok b) (Ok cs) is e rest (inr later) = rest cs refl x d later refused
      by (Ok b) (Err c) is e rest there = cc
      by (Err c) (Ok cs) is e rest there = cc
      by (Err b) (Err c) is e rest there = cc

  -- the fault of a gathering is one of an item, and no item has one of lesser rank
  record IsLeastOf (xs : List A) (e : F) : Type 0 where
    item : A
    there : Contains xs item
    refused : f item ≡ Err e
    least : (x : A) (d : F) → Contains xs x → f x ≡ Err d → rank e ≤ rank d

  gather-least : (xs : List A) (e : F) → gather rank f xs ≡ Err e → IsLeastOf xs e
  unfolding gather
  gather-least [] e h = absurd (cc)
  gather-least (a ∷ xs) e h = by (f a) (gather rank f xs) refl refl h (gather-least xs)
    where
      -- every other item is later
      first : (P : A → F → Type 0) → (x : A) (d : F) → (f a ≡ Err d → P a d) → (Contains xs x → P x d) → Contains (a ∷ xs) x → f x ≡ Err d → P x d
      first P x d here later there refused = elim (contains_cases a xs x there) [
        | inl same ↦ rw (← same) (here (rw (← same) at refused))
        | inr more ↦ later more
      ]

      two : (c d : F) → f a ≡ Err c → IsLeastOf xs d → (b : Bool) → nat_le (rank c) (rank d) ≡ b → (if b then c else d) ≡ e → IsLeastOf (a ∷ xs) e
      two c d is rest true t same =
          let below : rank c ≤ rank d = leb-true (rank c) (rank d) t in
          rw (← same)
          (record {
            item = a;
            there = contains_head a xs;
            refused = is;
            least = λ x o there refused.
                first (λ _ o. rank c ≤ rank o) x o (λ here. let one : c ≡ o = cc in rw one (omega arith))
                (λ more. omega (arith, rest.least x o more refused)) there refused;
          })
      two c d is rest false t same =
          let above : rank d < rank c = leb-false (rank c) (rank d) t in
          rw (← same)
          (record {
            item = rest.item;
            there = contains_tail a xs rest.item rest.there;
            refused = rest.refused;
            least = λ x o there refused.
                first (λ _ o. rank d ≤ rank o) x o (λ here. let one : c ≡ o = cc in rw (← one) (omega arith))
                (λ more. rest.least x o more refused) there refused;
          })

      by : (r : Result B F) (rs : Result (List B) F) → f a ≡ r → gather rank f xs ≡ rs → both rank (one r) rs ≡ Err e
          → ((d : F) → gather rank f xs ≡ Err d → IsLeastOf xs d) → IsLeastOf (a ∷ xs) e
      by (Ok b) (Ok bs) is all same rest = absurd (cc)
      by (Ok b) (Err d) is all same rest =
          let same_fault : d ≡ e = cc in
          let one = rest d all in
          rw (← same_fault)
          (record {
            item = one.item;
            there = contains_tail a xs one.item one.there;
            refused = one.refused;
            least = λ x o there refused.
                first (λ _ o. rank d ≤ rank o) x o (λ here. absurd (cc)) (λ more. one.least x o more refused) there refused;
          })
      by (Err c) (Ok bs) is all same rest =
          let same_fault : c ≡ e = cc in
          rw (← same_fault)
          (record {
            item = a;
            there = contains_head a xs;
            refused = is;
            least = λ x o there refused.
                first (λ _ o. rank c ≤ rank o) x o (λ here. let one : c ≡ o = cc in rw one (omega arith))
                (λ more. absurd (gather-none xs bs all x o more refused)) there refused;
          })
      by (Err c) (Err d) is all same rest = two c d is (rest d all) (nat_le (rank c) (rank d)) refl cc

-- a fault of a piece
abbrev IsOfPiece : TraceFault → Type 0
IsOfPiece e = (e ≡ fault.Op) ⊎ ((e ≡ fault.SpaceUnknown) ⊎ (e ≡ fault.IndexTooLarge))

abbrev OfPiece : {A : Type 0} → Result A TraceFault → Type 0
OfPiece r = IfErr r IsOfPiece

of_test : {A : Type 0} (b : Bool) (x y : Result A TraceFault) → OfPiece x → OfPiece y → OfPiece (if b then x else y)
of_test true x y p q = p
of_test false x y p q = q

of_option : {A : Type 0} (o : Option A) (e : TraceFault) → IsOfPiece e → OfPiece (ok_or o e)
of_option None e h = h
of_option (Some x) e h = tt

of_bind : {A B : Type 0} (r : Result A TraceFault) (g : A → Result B TraceFault) → OfPiece r → ((x : A) → OfPiece (g x)) → OfPiece (r >>= g)
of_bind (Ok x) g h k = k x
of_bind (Err e) g h k = h

of_pair : {A B : Type 0} (a : Result A TraceFault) (b : Result B TraceFault) → OfPiece a → OfPiece b → OfPiece (pair number a b)
of_pair (Ok x) (Ok y) h k = tt
of_pair (Ok x) (Err e) h k = k
of_pair (Err d) (Ok y) h k = h
of_pair (Err d) (Err e) h k = by (nat_le (number d) (number e))
  where
    by : (b : Bool) → IsOfPiece (if b then d else e)
    by true = h
    by false = k

cell_of_name-fault : (spaces : List Space) (name index : List ℕ) → OfPiece (cell_of_name spaces name index)
cell_of_name-fault spaces name index =
    of_test (is_name name) _ (Err fault.Op)
    (of_bind (ok_or (number_of index) fault.Op) _ (of_option (number_of index) fault.Op (inl refl))
    (λ i. of_bind (ok_or (space_named spaces name) fault.SpaceUnknown) _ (of_option (space_named spaces name) fault.SpaceUnknown (inr (inl refl)))
    (λ space. of_test (nat_lt i (size_at spaces space)) (Ok (record { space = space; index = i })) (Err fault.IndexTooLarge) tt (inr (inr refl)))))
    (inl refl)

cell_of-fault : (spaces : List Space) (text : List ℕ) → OfPiece (cell_of spaces text)
unfolding cell_of
cell_of-fault spaces text = by (parts 58 text)
  where
    by : (words : List (List ℕ)) → OfPiece (cell_of_parts spaces words)
    by [] = inl refl
    by (name ∷ []) = inl refl
    by (name ∷ index ∷ []) = cell_of_name-fault spaces name index
    by (name ∷ index ∷ more ∷ others) = inl refl

value_of-fault : (text : List ℕ) → OfPiece (value_of text)
unfolding value_of
value_of-fault text = of_option (option_and_then small (number_of text)) fault.Op (inl refl)

cell_and-fault : {A : Type 0} (spaces : List Space) (read : List ℕ → Result A TraceFault) → ((text : List ℕ) → OfPiece (read text))
    → (words : List (List ℕ)) → OfPiece (cell_and spaces read words)
cell_and-fault spaces read each [] = inl refl
cell_and-fault spaces read each (cell ∷ []) = inl refl
cell_and-fault spaces read each (cell ∷ second ∷ []) = of_pair (cell_of spaces cell) (read second) (cell_of-fault spaces cell) (each second)
cell_and-fault spaces read each (cell ∷ second ∷ third ∷ others) = inl refl

one_cell-fault : (spaces : List Space) (words : List (List ℕ)) → OfPiece (one_cell spaces words)
one_cell-fault spaces [] = inl refl
one_cell-fault spaces (cell ∷ []) = cell_of-fault spaces cell
one_cell-fault spaces (cell ∷ more ∷ others) = inl refl

op_of_verb-fault : (spaces : List Space) (v : Verb) (words : List (List ℕ)) → OfPiece (op_of_verb spaces v words)
unfolding op_of_verb
op_of_verb-fault spaces verb.Set words = of_bind _ (λ p. Ok (op.Set p.0 p.1)) (cell_and-fault spaces value_of value_of-fault words) (λ p. tt)
op_of_verb-fault spaces verb.Add words = of_bind _ (λ p. Ok (op.Add p.0 p.1)) (cell_and-fault spaces value_of value_of-fault words) (λ p. tt)
op_of_verb-fault spaces verb.Copy words = of_bind _ (λ p. Ok (op.Copy p.0 p.1)) (cell_and-fault spaces (cell_of spaces) (cell_of-fault spaces) words) (λ p. tt)
op_of_verb-fault spaces verb.Swap words = of_bind _ (λ p. Ok (op.Swap p.0 p.1)) (cell_and-fault spaces (cell_of spaces) (cell_of-fault spaces) words) (λ p. tt)
op_of_verb-fault spaces verb.Read words = of_bind _ (λ cell. Ok (op.Read cell)) (one_cell-fault spaces words) (λ cell. tt)

op_of-fault : (spaces : List Space) (piece : List ℕ) → OfPiece (op_of spaces piece)
unfolding op_of
op_of-fault spaces piece = by (parts 32 piece)
  where
    by : (words : List (List ℕ)) → OfPiece (op_of_words spaces words)
    by [] = inl refl
    by (name ∷ words) =
        of_bind (ok_or (verb_named name) fault.Op) _ (of_option (verb_named name) fault.Op (inl refl)) (λ v. op_of_verb-fault spaces v words)

-- what a range is refused for
ends_of-fault : (spaces : List Space) (text : List ℕ) → OfPiece (ends_of spaces text)
unfolding ends_of
ends_of-fault spaces text =
    of_bind (ok_or (two_of (parts 58 text)) fault.Op) _ (of_option (two_of (parts 58 text)) fault.Op (inl refl))
    (λ words. of_bind (ok_or (two_of (parts 45 words.1)) fault.Op) _ (of_option (two_of (parts 45 words.1)) fault.Op (inl refl))
    (λ ends. of_test (are_rising ends.0 ends.1) _ (Err fault.Op)
    (of_pair (cell_of_name spaces words.0 ends.0) (cell_of_name spaces words.0 ends.1) (cell_of_name-fault spaces words.0 ends.0) (cell_of_name-fault spaces words.0 ends.1))
    (inl refl)))

range_of-fault : (spaces : List Space) (piece : List ℕ) → OfPiece (range_of spaces piece)
unfolding range_of
range_of-fault spaces piece = by (three_of (parts 32 piece)) (two_of (parts 32 piece))
  where
    valued : (words : Field × Field × Field) (to : (Cell × Cell) × ℕ → Range) → OfPiece (pair number (ends_of spaces words.1) (value_of words.2) >>= (λ p. Ok (to p)))
    valued words to = of_bind _ (λ p. Ok (to p)) (of_pair (ends_of spaces words.1) (value_of words.2) (ends_of-fault spaces words.1) (value_of-fault words.2)) (λ p. tt)

    by : (a : Option (Field × Field × Field)) (b : Option (Field × Field)) → OfPiece (range_of_words spaces a b)
    by (Some words) b =
        of_test (bytes_eq words.0 (codes "set")) _ _ (valued words (λ p. range_to (deed.Set p.1) p.0))
        (of_test (bytes_eq words.0 (codes "add")) _ (Err fault.Op) (valued words (λ p. range_to (deed.Add p.1) p.0)) (inl refl))
    by None (Some words) =
        of_test (bytes_eq words.0 (codes "read")) _ (Err fault.Op)
        (of_bind (ends_of spaces words.1) (λ ends. Ok (range_to deed.Read ends)) (ends_of-fault spaces words.1) (λ ends. tt)) (inl refl)
    by None None = inl refl

-- what a piece is refused for
of_one : (r : Result Op TraceFault) → OfPiece r → OfPiece (one r)
of_one (Ok op) h = tt
of_one (Err e) h = h

of_range : (r : Result Range TraceFault) → OfPiece r → OfPiece (ops_of_range r)
of_range (Ok range) h = tt
of_range (Err e) h = h

of_either : (range one : Result (List Op) TraceFault) → OfPiece range → OfPiece one → OfPiece (or_range range one)
of_either range (Ok list) p q = tt
of_either range (Err fault.Op) p q = p
of_either range (Err fault.Csv) p q = q
of_either range (Err fault.Header) p q = q
of_either range (Err fault.Fields) p q = q
of_either range (Err fault.Name) p q = q
of_either range (Err fault.Cost) p q = q
of_either range (Err fault.NoOps) p q = q
of_either range (Err fault.SpaceUnknown) p q = q
of_either range (Err fault.IndexTooLarge) p q = q
of_either range (Err fault.TooManyOps) p q = q
of_either range (Err fault.TooManyMessages) p q = q
of_either range (Err fault.Release) p q = q
of_either range (Err fault.Client) p q = q
of_either range (Err fault.Think) p q = q
of_either range (Err fault.After) p q = q
of_either range (Err fault.TooManyAfter) p q = q

piece_of-fault : (version : Version) (spaces : List Space) (piece : List ℕ) → OfPiece (piece_of version spaces piece)
unfolding piece_of
piece_of-fault version spaces piece = by (has_clients version)
  where
    single : OfPiece (one (op_of spaces piece))
    single = of_one (op_of spaces piece) (op_of-fault spaces piece)

    by : (b : Bool) → OfPiece (if b then or_range (ops_of_range (range_of spaces piece)) (one (op_of spaces piece)) else one (op_of spaces piece))
    by true = of_either (ops_of_range (range_of spaces piece)) (one (op_of spaces piece)) (of_range (range_of spaces piece) (range_of-fault spaces piece)) single
    by false = single

piece_number : (d : TraceFault) → IsOfPiece d → (7 ≤ number d) × (number d ≤ 9)
piece_number d (inl same) = rw same (omega arith, omega arith)
piece_number d (inr (inl same)) = rw same (omega arith, omega arith)
piece_number d (inr (inr same)) = rw same (omega arith, omega arith)

-- what a name, a cost, a number of a record, a release, a client, a think time and a list are refused for
name_of-refused : (name : Field) (d : TraceFault) → name_of name ≡ Err d → (d ≡ fault.Name) × (is_name name ≡ false)
name_of-refused name d h = by (is_name name) h
  where
    by : (b : Bool) → (if b then Ok name else Err fault.Name) ≡ Err d → (d ≡ fault.Name) × (b ≡ false)
    by true e = absurd (cc)
    by false e = (cc, refl)

option-refused : (o : Option ℕ) (e d : TraceFault) → ok_or o e ≡ Err d → (d ≡ e) × (o ≡ None)
option-refused None e d h = (cc, refl)
option-refused (Some n) e d h = absurd (cc)

option-read : (o : Option ℕ) (e : TraceFault) (n : ℕ) → ok_or o e ≡ Ok n → o ≢ None
option-read None e n h none = cc
option-read (Some m) e n h none = cc

counted-refused : (version : Version) (at : ℕ) (d : TraceFault) → counted version at ≡ Err d → (d ≡ fault.TooManyMessages) × (max_messages version + 1 < at)
counted-refused version at d h = by (nat_lt (max_messages version + 1) at) refl h
  where
    by : (b : Bool) → nat_lt (max_messages version + 1) at ≡ b → (if b then Err fault.TooManyMessages else Ok at) ≡ Err d → (d ≡ fault.TooManyMessages) × (max_messages version + 1 < at)
    by true p e = (cc, ltb-true _ _ p)
    by false p e = absurd (cc)

-- a field that is there and is not read
abbrev IsField : Option Field → (Field → Type 0) → Type 0
IsField field P = (text : Field) × (field ≡ Some text) × P text

release_of-refused : (release : Option Field) (d : TraceFault) → release_of release ≡ Err d
    → (d ≡ fault.Release) × IsField release (λ text. number_within 0 MAX_RELEASE text ≡ None)
release_of-refused None d h = absurd (cc)
release_of-refused (Some text) d h =
    let why = option-refused (number_within 0 MAX_RELEASE text) fault.Release d h in
    (why.0, (text, refl, why.1))

client_of-refused : (client : Option Field) (d : TraceFault) → client_of client ≡ Err d → (d ≡ fault.Client) × IsField client (λ text. is_name text ≡ false)
client_of-refused None d h = absurd (cc)
client_of-refused (Some text) d h = by (is_name text) refl h
  where
    by : (b : Bool) → is_name text ≡ b → (if b then Ok text else Err fault.Client) ≡ Err d → (d ≡ fault.Client) × IsField (Some text) (λ text. is_name text ≡ false)
    by true p e = absurd (cc)
    by false p e = (cc, (text, refl, p))

think_of-refused : (think : Option Field) (d : TraceFault) → think_of think ≡ Err d
    → (d ≡ fault.Think) × IsField think (λ text. number_within 0 MAX_THINK text ≡ None)
think_of-refused None d h = absurd (cc)
think_of-refused (Some text) d h =
    let why = option-refused (number_within 0 MAX_THINK text) fault.Think d h in
    (why.0, (text, refl, why.1))

-- the text spells no list of message n
abbrev NoList : ℕ → Field → Type 0
NoList n text = (list : List Await) → SpellAwaits text list → ¬ IsList n list

-- a list is refused for itself, or for too many of all messages, and is then one
data AfterRefused (place : Place) (after : Option Field) : TraceFault → Type 0 where
  no_list : IsField after (NoList (place.at - 1)) → AfterRefused place after fault.After
  too_many : (list : List Await) → IsAfter (place.at - 1) after list → most_awaited place < length list → AfterRefused place after fault.TooManyAfter

after_of-refused : (place : Place) (after : Option Field) (d : TraceFault) → after_of place after ≡ Err d → AfterRefused place after d
unfolding list_of
after_of-refused place None d h = absurd (cc)
after_of-refused place (Some text) d h = by (awaits_of text) refl (awaits_of-fault text) h
  where
    many : (list : List Await) (b : Bool) → nat_lt (most_awaited place) (length list) ≡ b → IsAfter (place.at - 1) (Some text) list
        → (if b then Err fault.TooManyAfter else Ok list) ≡ Err d → AfterRefused place (Some text) d
    many list true over is e =
        let same : fault.TooManyAfter ≡ d = cc in
        rw (← same) (too_many list is (ltb-true (most_awaited place) (length list) over))
    many list false over is e = absurd (cc)

    only : (list other : List Await) → awaits_of text ≡ Ok list → SpellAwaits text other → other ≡ list
    only list other all spelled = let again = read-awaits_of text other spelled in cc (sym again ∙ all)

    limited : (list : List Await) (b : Bool) → are_between 0 (place.at - 1) list ≡ b → awaits_of text ≡ Ok list
        → ((if b then Ok list else Err fault.After) >>= (λ list. if nat_lt (most_awaited place) (length list) then Err fault.TooManyAfter else Ok list)) ≡ Err d
        → AfterRefused place (Some text) d
    limited list true p all e =
        many list (nat_lt (most_awaited place) (length list)) refl (awaits_of-read text list all, are_list (place.at - 1) list p) e
    limited list false p all e =
        let same : fault.After ≡ d = cc in
        rw (← same)
        (no_list (
          text,
          refl,
          λ other spelled is.
              both_ways (are_between 0 (place.at - 1) list) p (rw (only list other all spelled) at (list_are (place.at - 1) other is)),
        ))

    by : (r : Result (List Await) TraceFault) → awaits_of text ≡ r → IfErr r (λ e. e ≡ fault.After)
        → ((r >>= (λ list. if are_between 0 (place.at - 1) list then Ok list else Err fault.After))
        >>= (λ list. if nat_lt (most_awaited place) (length list) then Err fault.TooManyAfter else Ok list)) ≡ Err d
        → AfterRefused place (Some text) d
    by (Ok list) all is e = limited list (are_between 0 (place.at - 1) list) refl all e
    by (Err c) all is e =
        let same : c ≡ d = cc in
        rw (← same, is) (no_list (text, refl, λ other spelled _. let read = read-awaits_of text other spelled in cc (sym read ∙ all)))

-- what is read is not refused
thought : (think : Option Field) (n : ℕ) → think_of think ≡ Ok n → IsField think (λ text. number_within 0 MAX_THINK text ≡ None) → ⊥
thought think n h (text, is, none) = option-read (number_within 0 MAX_THINK text) fault.Think n (rw is at h) none

-- a field with a list is not without one
listed : (n : ℕ) (after : Option Field) (list : List Await) → IsAfter n after list → IsField after (NoList n) → ⊥
listed n after list is (text, same, none) = let here = rw same at is in none list here.0 here.1

released : (release : Option Field) (n : ℕ) → release_of release ≡ Ok n → IsField release (λ text. number_within 0 MAX_RELEASE text ≡ None) → ⊥
released release n h (text, is, none) = option-read (number_within 0 MAX_RELEASE text) fault.Release n (rw is at h) none

told_client : (client : Option Field) (name : Field) → client_of client ≡ Ok name → IsField client (λ text. is_name text ≡ false) → ⊥
told_client client name h (text, is, none) = let read = rw (is, none) at h in cc

-- no piece is refused
abbrev NoPiece : Version → List Space → Field → Type 0
NoPiece version spaces ops = (piece : List ℕ) (d : TraceFault) → Contains (parts 59 ops) piece → piece_of version spaces piece ≡ Err d → ⊥

-- the pieces do not stand for more operations
abbrev NotMany : Version → List Space → ℕ → Field → Type 0
NotMany version spaces most text = (ops : List Op) → SpellOps version spaces text ops → length ops ≤ most

-- the operations that are read
record ReadsOps (version : Version) (spaces : List Space) (most : ℕ) (ops : Field) : Type 0 where
  some : ops ≢ []
  none : NoPiece version spaces ops
  few : NotMany version spaces most ops

-- what operations are refused for
data OpsRefused (version : Version) (spaces : List Space) (most : ℕ) (ops : Field) : TraceFault → Type 0 where
  no_ops : ops ≡ [] → OpsRefused version spaces most ops fault.NoOps
  bad_piece : {d : TraceFault} → ops ≢ [] → IsLeastOf number (piece_of version spaces) (parts 59 ops) d → OpsRefused version spaces most ops d
  many : ops ≢ [] → NoPiece version spaces ops → (list : List Op) → SpellOps version spaces ops list → most < length list → OpsRefused version spaces most ops fault.TooManyOps

no_bytes : (text : Field) → (length text == 0) ≡ true → text ≡ []
no_bytes [] h = refl
no_bytes (b ∷ bs) h = absurd (let none : length (b ∷ bs) ≡ 0 = eqb-true (length (b ∷ bs)) 0 h in omega arith)

module _ (version : Version) (spaces : List Space) (most : ℕ) (ops : Field) where
  ops_of-reads : (list : List Op) → ops_of version spaces most ops ≡ Ok list → ReadsOps version spaces most ops
  unfolding ops_of pieces_of
  ops_of-reads list h = by (length ops == 0) (gather number (piece_of version spaces) (parts 59 ops)) refl refl h
    where
      few : (read : List Op) (t : Bool) → nat_lt most (length read) ≡ t → (if t then Err fault.TooManyOps else Ok read) ≡ Ok list → length read ≤ most
      few read true p e = absurd (cc)
      few read false p e = ltb-false _ _ p

      by : (t : Bool) (r : Result (List (List Op)) TraceFault) → (length ops == 0) ≡ t → gather number (piece_of version spaces) (parts 59 ops) ≡ r
          → (if t then Err fault.NoOps else (joined r >>= (λ read. if nat_lt most (length read) then Err fault.TooManyOps else Ok read))) ≡ Ok list
          → ReadsOps version spaces most ops
      by true r p all e = absurd (cc)
      by false (Ok lists) p all e =
          record {
            some = λ none. eqb-false (length ops) 0 p (ap length none);
            none = gather-none number (piece_of version spaces) (parts 59 ops) lists all;
            few = λ other (others, each, is).
                let again = read-gather number (piece_of version spaces) (parts 59 ops) others each in
                let same : others ≡ lists = cc (sym again ∙ all) in
                rw (is, same) (few (flat_map (λ list. list) lists) (nat_lt most (length (flat_map (λ list. list) lists))) refl e);
          }
      by false (Err c) p all e = absurd (cc)

  ops_of-refused : (d : TraceFault) → ops_of version spaces most ops ≡ Err d → OpsRefused version spaces most ops d
  unfolding ops_of pieces_of
  ops_of-refused d h = by (length ops == 0) (gather number (piece_of version spaces) (parts 59 ops)) refl refl h
    where
      too_many : (lists : List (List Op)) (t : Bool) → gather number (piece_of version spaces) (parts 59 ops) ≡ Ok lists → (length ops == 0) ≡ false
          → nat_lt most (length (flat_map (λ list. list) lists)) ≡ t
          → (if t then Err fault.TooManyOps else Ok (flat_map (λ list. list) lists)) ≡ Err d → OpsRefused version spaces most ops d
      too_many lists true all p over e =
          let same : fault.TooManyOps ≡ d = cc in
          rw (← same)
          (many (λ none. eqb-false (length ops) 0 p (ap length none))
          (gather-none number (piece_of version spaces) (parts 59 ops) lists all)
          (flat_map (λ list. list) lists) (lists, gather-read number (piece_of version spaces) (parts 59 ops) lists all, refl)
          (ltb-true most (length (flat_map (λ list. list) lists)) over))
      too_many lists false all p over e = absurd (cc)

      by : (t : Bool) (r : Result (List (List Op)) TraceFault) → (length ops == 0) ≡ t → gather number (piece_of version spaces) (parts 59 ops) ≡ r
          → (if t then Err fault.NoOps else (joined r >>= (λ read. if nat_lt most (length read) then Err fault.TooManyOps else Ok read))) ≡ Err d
          → OpsRefused version spaces most ops d
      by true r p all e =
          let same : fault.NoOps ≡ d = cc in
          rw (← same) (no_ops (no_bytes ops p))
      by false (Ok lists) p all e = too_many lists (nat_lt most (length (flat_map (λ list. list) lists))) all p refl e
      by false (Err c) p all e =
          let same : c ≡ d = cc in
          rw (← same) (bad_piece (λ none. eqb-false (length ops) 0 p (ap length none)) (gather-least number (piece_of version spaces) (parts 59 ops) c all))

refused_piece : (version : Version) (spaces : List Space) (piece : List ℕ) (d : TraceFault) → piece_of version spaces piece ≡ Err d → IsOfPiece d
refused_piece version spaces piece d refused = rw refused at (piece_of-fault version spaces piece)

module _ (version : Version) (spaces : List Space) (place : Place) (columns : Columns) where
  abbrev Read : Type 0
  Read = ReadsOps version spaces (most_ops version place) columns.ops

  -- the checks below a number fail
  record Below (n : ℕ) : Type 0 where
    named : 4 < n → is_name columns.name ≡ true
    costs : 5 < n → number_within 1 MAX_COST columns.cost ≢ None
    some : 6 < n → columns.ops ≢ []
    pieces : (piece : List ℕ) (d : TraceFault) → Contains (parts 59 columns.ops) piece → piece_of version spaces piece ≡ Err d → n ≤ number d
    few : 10 < n → NotMany version spaces (most_ops version place) columns.ops
    counts : 11 < n → place.at ≤ max_messages version + 1
    released : 13 < n → HasTraceFault version spaces place columns fault.Release → ⊥
    told : 14 < n → HasTraceFault version spaces place columns fault.Client → ⊥
    thinks : 15 < n → HasTraceFault version spaces place columns fault.Think → ⊥
    lists : 16 < n → HasTraceFault version spaces place columns fault.After → ⊥
    top : n ≤ 17

  -- so each check that holds has this number or a higher one
  at_least : (n : ℕ) → Below n → (other : TraceFault) → HasTraceFault version spaces place columns other → n ≤ number other
  at_least n below fault.Csv h = absurd h
  at_least n below fault.Header h = absurd h
  at_least n below fault.Fields h = absurd h
  at_least n below fault.Name h = elim (cases_lt 4 n) [ inl over ↦ let is = below.named over in absurd (cc) | inr upto ↦ upto ]
  at_least n below fault.Cost h = elim (cases_lt 5 n) [ inl over ↦ absurd (below.costs over h) | inr upto ↦ upto ]
  at_least n below fault.NoOps h = elim (cases_lt 6 n) [ inl over ↦ absurd (below.some over h) | inr upto ↦ upto ]
  at_least n below fault.Op h = below.pieces h.0 fault.Op h.1 h.2
  at_least n below fault.SpaceUnknown h = below.pieces h.0 fault.SpaceUnknown h.1 h.2
  at_least n below fault.IndexTooLarge h = below.pieces h.0 fault.IndexTooLarge h.1 h.2
  at_least n below fault.TooManyOps (ops, spelled, over) = elim (cases_lt 10 n) [ inl past ↦ let is = below.few past ops spelled in absurd (omega (arith, is, over)) | inr upto ↦ upto ]
  at_least n below fault.TooManyMessages h = elim (cases_lt 11 n) [ inl over ↦ let is = below.counts over in absurd (omega arith) | inr upto ↦ upto ]
  at_least n below fault.Release h = elim (cases_lt 13 n) [ inl over ↦ absurd (below.released over h) | inr upto ↦ upto ]
  at_least n below fault.Client h = elim (cases_lt 14 n) [ inl over ↦ absurd (below.told over h) | inr upto ↦ upto ]
  at_least n below fault.Think h = elim (cases_lt 15 n) [ inl over ↦ absurd (below.thinks over h) | inr upto ↦ upto ]
  at_least n below fault.After h = elim (cases_lt 16 n) [ inl over ↦ absurd (below.lists over h) | inr upto ↦ upto ]
  at_least n below fault.TooManyAfter h = below.top

  -- a fault of a piece has number 7 at least
  pieces_late : (n : ℕ) → n ≤ 7 → (piece : List ℕ) (d : TraceFault) → Contains (parts 59 columns.ops) piece → piece_of version spaces piece ≡ Err d → n ≤ number d
  pieces_late n early piece d there refused = omega (arith, (piece_number d (refused_piece version spaces piece d refused)).0)

  piece_holds : (d : TraceFault) → IsOfPiece d → HasPiece version spaces columns.ops d → HasTraceFault version spaces place columns d
  piece_holds d (inl same) h = rw same (rw same at h)
  piece_holds d (inr (inl same)) h = rw same (rw same at h)
  piece_holds d (inr (inr same)) h = rw same (rw same at h)

  -- where the pieces are not looked at
  early : (n : ℕ) → n ≤ 6 → (4 < n → is_name columns.name ≡ true) → (5 < n → number_within 1 MAX_COST columns.cost ≢ None) → Below n
  early n low named costs = record {
    named = named;
    costs = costs;
    some = λ over. absurd (omega (arith, low, over));
    pieces = pieces_late n (omega (arith, low));
    few = λ over. absurd (omega (arith, low, over));
    counts = λ over. absurd (omega (arith, low, over));
    released = λ over. absurd (omega (arith, low, over));
    told = λ over. absurd (omega (arith, low, over));
    thinks = λ over. absurd (omega (arith, low, over));
    lists = λ over. absurd (omega (arith, low, over));
    top = omega (arith, low);
  }

  ops_refused : (d : TraceFault) → is_name columns.name ≡ true → number_within 1 MAX_COST columns.cost ≢ None
      → OpsRefused version spaces (most_ops version place) columns.ops d → IsLeastCheck version spaces place columns d
  ops_refused d named costs (no_ops none) = record { holds = none; least = at_least 6 (early 6 (omega arith) (λ _. named) (λ _. costs)) }
  ops_refused d named costs (bad_piece some one) =
      let of_piece = refused_piece version spaces one.item d one.refused in
      let upto = (piece_number d of_piece).1 in
      record {
        holds = piece_holds d of_piece (one.item, one.there, one.refused);
        least = at_least (number d) (record {
          named = λ _. named;
          costs = λ _. costs;
          some = λ _. some;
          pieces = one.least;
          few = λ over. absurd (omega (arith, upto, over));
          counts = λ over. absurd (omega (arith, upto, over));
          released = λ over. absurd (omega (arith, upto, over));
          told = λ over. absurd (omega (arith, upto, over));
          thinks = λ over. absurd (omega (arith, upto, over));
          lists = λ over. absurd (omega (arith, upto, over));
          top = omega (arith, upto);
        });
      }
  ops_refused d named costs (many some none list spelled over) =
      record {
        holds = (list, spelled, over);
        least = at_least 10 (record {
          named = λ _. named;
          costs = λ _. costs;
          some = λ _. some;
          pieces = λ text e there refused. absurd (none text e there refused);
          few = λ late. absurd (omega (arith, late));
          counts = λ late. absurd (omega (arith, late));
          released = λ late. absurd (omega (arith, late));
          told = λ late. absurd (omega (arith, late));
          thinks = λ late. absurd (omega (arith, late));
          lists = λ late. absurd (omega (arith, late));
          top = omega arith;
        });
      }

  -- where the operations are read
  late : (n : ℕ) → n ≤ 17 → is_name columns.name ≡ true → number_within 1 MAX_COST columns.cost ≢ None → Read
      → (11 < n → place.at ≤ max_messages version + 1) → (13 < n → HasTraceFault version spaces place columns fault.Release → ⊥)
      → (14 < n → HasTraceFault version spaces place columns fault.Client → ⊥) → (15 < n → HasTraceFault version spaces place columns fault.Think → ⊥)
      → (16 < n → HasTraceFault version spaces place columns fault.After → ⊥) → Below n
  late n top named costs reads counts released told thinks lists = record {
    named = λ _. named;
    costs = λ _. costs;
    some = λ _. reads.some;
    pieces = λ text f there refused. absurd (reads.none text f there refused);
    few = λ _. reads.few;
    counts = counts;
    released = released;
    told = told;
    thinks = thinks;
    lists = lists;
    top = top;
  }

  -- where all but the list is read
  list_refused : (d : TraceFault) → AfterRefused place columns.after d
      → ((n : ℕ) → n ≤ 17 → (16 < n → HasTraceFault version spaces place columns fault.After → ⊥) → Below n) → IsLeastCheck version spaces place columns d
  list_refused d (no_list none) below = record { holds = none; least = at_least 16 (below 16 (omega arith) (λ over. absurd (omega (arith, over)))) }
  list_refused d (too_many list is over) below = record {
    holds = (list, is, over);
    least = at_least 17 (below 17 (omega arith) (λ _. listed (place.at - 1) columns.after list is));
  }

  columns-refused : (e : TraceFault) → message_of_columns version spaces place columns ≡ Err e → IsLeastCheck version spaces place columns e
  unfolding message_of_columns
  columns-refused e h =
      by (name_of columns.name) (cost_of columns.cost) (ops_of version spaces (most_ops version place) columns.ops) (counted version place.at) (release_of columns.release)
      (client_of columns.client) (think_of columns.think) (after_of place columns.after)
      (name_of-read columns.name) (name_of-refused columns.name)
      (option-read (number_within 1 MAX_COST columns.cost) fault.Cost) (option-refused (number_within 1 MAX_COST columns.cost) fault.Cost)
      (ops_of-reads version spaces (most_ops version place) columns.ops) (ops_of-refused version spaces (most_ops version place) columns.ops)
      (counted-read version place.at) (counted-refused version place.at) (released columns.release) (release_of-refused columns.release)
      (told_client columns.client) (client_of-refused columns.client) (thought columns.think) (think_of-refused columns.think)
      (after_of-refused place columns.after) h
    where
      by : (n : Result Field TraceFault) (c : Result ℕ TraceFault) (o : Result (List Op) TraceFault) (a : Result ℕ TraceFault) (r : Result ℕ TraceFault)
          (k : Result Field TraceFault) (t : Result ℕ TraceFault) (l : Result (List Await) TraceFault)
          → ((text : Field) → n ≡ Ok text → (is_name columns.name ≡ true) × (text ≡ columns.name))
          → ((d : TraceFault) → n ≡ Err d → (d ≡ fault.Name) × (is_name columns.name ≡ false))
          → ((k : ℕ) → c ≡ Ok k → number_within 1 MAX_COST columns.cost ≢ None)
          → ((d : TraceFault) → c ≡ Err d → (d ≡ fault.Cost) × (number_within 1 MAX_COST columns.cost ≡ None))
          → ((list : List Op) → o ≡ Ok list → Read)
          → ((d : TraceFault) → o ≡ Err d → OpsRefused version spaces (most_ops version place) columns.ops d)
          → ((k : ℕ) → a ≡ Ok k → place.at ≤ max_messages version + 1)
          → ((d : TraceFault) → a ≡ Err d → (d ≡ fault.TooManyMessages) × (max_messages version + 1 < place.at))
          → ((m : ℕ) → r ≡ Ok m → HasTraceFault version spaces place columns fault.Release → ⊥)
          → ((d : TraceFault) → r ≡ Err d → (d ≡ fault.Release) × HasTraceFault version spaces place columns fault.Release)
          → ((name : Field) → k ≡ Ok name → HasTraceFault version spaces place columns fault.Client → ⊥)
          → ((d : TraceFault) → k ≡ Err d → (d ≡ fault.Client) × HasTraceFault version spaces place columns fault.Client)
          → ((m : ℕ) → t ≡ Ok m → HasTraceFault version spaces place columns fault.Think → ⊥)
          → ((d : TraceFault) → t ≡ Err d → (d ≡ fault.Think) × HasTraceFault version spaces place columns fault.Think)
          → ((d : TraceFault) → l ≡ Err d → AfterRefused place columns.after d)
          → ◌≡◌ {A = Result Message TraceFault} (do
            text ← n
            cost ← c
            list ← o
            _ ← a
            ticks ← r
            client ← k
            think ← t
            after ← l
            Ok (record { name = text; cost = cost; release = ticks; client = client; think = think; after = after; ops = list })) (Err e)
          → IsLeastCheck version spaces place columns e
      by (Err d) c o a r k t l hn en hc ec ho eo ha ea hr er hk ek ht et el same =
          let why = en d refl in
          let is : e ≡ fault.Name = sym (let one : d ≡ e = cc in one) ∙ why.0 in
          rw is (record { holds = why.1; least = at_least 4 (early 4 (omega arith) (λ over. absurd (omega (arith, over))) (λ over. absurd (omega (arith, over)))) })
      by (Ok n) (Err d) o a r k t l hn en hc ec ho eo ha ea hr er hk ek ht et el same =
          let why = ec d refl in
          let is : e ≡ fault.Cost = sym (let one : d ≡ e = cc in one) ∙ why.0 in
          rw is (record { holds = why.1; least = at_least 5 (early 5 (omega arith) (λ _. (hn n refl).0) (λ over. absurd (omega (arith, over)))) })
      by (Ok n) (Ok c) (Err d) a r k t l hn en hc ec ho eo ha ea hr er hk ek ht et el same =
          let is : d ≡ e = cc in
          ops_refused e (hn n refl).0 (hc c refl) (rw is at (eo d refl))
      by (Ok n) (Ok c) (Ok o) (Err d) r k t l hn en hc ec ho eo ha ea hr er hk ek ht et el same =
          let why = ea d refl in
          let is : e ≡ fault.TooManyMessages = sym (let one : d ≡ e = cc in one) ∙ why.0 in
          rw is
          (record {
            holds = why.1;
            least = at_least 11 (late 11 (omega arith) (hn n refl).0 (hc c refl) (ho o refl)
                (λ over. absurd (omega (arith, over))) (λ over. absurd (omega (arith, over))) (λ over. absurd (omega (arith, over)))
                (λ over. absurd (omega (arith, over))) (λ over. absurd (omega (arith, over))));
          })
      by (Ok n) (Ok c) (Ok o) (Ok a) (Err d) k t l hn en hc ec ho eo ha ea hr er hk ek ht et el same =
          let why = er d refl in
          let is : e ≡ fault.Release = sym (let one : d ≡ e = cc in one) ∙ why.0 in
          rw is
          (record {
            holds = why.1;
            least = at_least 13 (late 13 (omega arith) (hn n refl).0 (hc c refl) (ho o refl) (λ _. ha a refl)
                (λ over. absurd (omega (arith, over))) (λ over. absurd (omega (arith, over))) (λ over. absurd (omega (arith, over)))
                (λ over. absurd (omega (arith, over))));
          })
      by (Ok n) (Ok c) (Ok o) (Ok a) (Ok r) (Err d) t l hn en hc ec ho eo ha ea hr er hk ek ht et el same =
          let why = ek d refl in
          let is : e ≡ fault.Client = sym (let one : d ≡ e = cc in one) ∙ why.0 in
          rw is
          (record {
            holds = why.1;
            least = at_least 14 (late 14 (omega arith) (hn n refl).0 (hc c refl) (ho o refl) (λ _. ha a refl) (λ _. hr r refl)
                (λ over. absurd (omega (arith, over))) (λ over. absurd (omega (arith, over))) (λ over. absurd (omega (arith, over))));
          })
      by (Ok n) (Ok c) (Ok o) (Ok a) (Ok r) (Ok k) (Err d) l hn en hc ec ho eo ha ea hr er hk ek ht et el same =
          let why = et d refl in
          let is : e ≡ fault.Think = sym (let one : d ≡ e = cc in one) ∙ why.0 in
          rw is
          (record {
            holds = why.1;
            least = at_least 15 (late 15 (omega arith) (hn n refl).0 (hc c refl) (ho o refl) (λ _. ha a refl) (λ _. hr r refl) (λ _. hk k refl)
                (λ over. absurd (omega (arith, over))) (λ over. absurd (omega (arith, over))));
          })
      by (Ok n) (Ok c) (Ok o) (Ok a) (Ok r) (Ok k) (Ok t) (Err d) hn en hc ec ho eo ha ea hr er hk ek ht et el same =
          let is : d ≡ e = cc in
          list_refused e (rw is at (el d refl))
          (λ m top lists. late m top (hn n refl).0 (hc c refl) (ho o refl) (λ _. ha a refl) (λ _. hr r refl) (λ _. hk k refl) (λ _. ht t refl) lists)
      by (Ok n) (Ok c) (Ok o) (Ok a) (Ok r) (Ok k) (Ok t) (Ok l) hn en hc ec ho eo ha ea hr er hk ek ht et el same = absurd (cc)

pub least_check_decides : (version : Version) (spaces : List Space) (place : Place) (columns : Columns) → LeastCheckDecides version spaces place columns
least_check_decides version spaces place columns e h = columns-refused version spaces place columns e h

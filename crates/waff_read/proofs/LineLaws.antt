-- A text without quotes is cut behind a line feed: its records are those before the cut and those behind it.
use Rattle.std.proofs.Common.{◌≡◌, ℕ, zero, suc, ◌+◌, ◌<◌, List, [], ◌∷◌, ◌++◌, length, take, drop, get_or, Bool, true, false, refl, sym, ap, ◌∙◌, arith, add-one}
use Rattle.std.specs.Prelude.{◌==◌, ◌||◌, if◌then◌else◌}
use Rattle.std.specs.List.{list_any}
use Rattle.std.proofs.Math.Seq.{drop-cons}
use Rattle.std.proofs.lemmas.Bool.{or_parts}
use Rattle.std.proofs.lemmas.List.{append_assoc, take-append-drop, take_more}
use Rattle.std.proofs.lemmas.List.Folds.{list_any-append}
use Rattle.csv.specs.Machine.{after_end, ends_at_end, field_after, in_field, next_record, start_field, start_record, step}
use Rattle.csv.specs.Reading.{default_config, is_bom, records, records_from, records_next, strip_bom}
use Rattle.csv.specs.declared.parser.Action.{Action}
use Rattle.csv.specs.declared.parser.Action.TheVariants as act
use Rattle.csv.specs.declared.parser.State.{State}
use Rattle.csv.specs.declared.parser.State.TheVariants as st
use Rattle.csv.specs.declared.parser.Terminator.TheVariants as term
use Rattle.waff_parse.specs.Rows.{Record, records_of}

-- the record that an action ends, where it ends one
abbrev ended : Action → Record → List ℕ → List Record
ended act.EndRecord fields field = (fields ++ (field ∷ [])) ∷ []
ended act.EndField fields field = []
ended act.Skip fields field = []
ended act.Copy fields field = []

-- the fields of the record at hand after an action
abbrev fields_then : Action → Record → List ℕ → Record
fields_then act.EndRecord fields field = []
fields_then act.EndField fields field = fields ++ (field ∷ [])
fields_then act.Skip fields field = fields
fields_then act.Copy fields field = fields

-- all records of a text from a state, with the fields and the bytes of the field at hand
unfoldable all_records : State → Record → List ℕ → List ℕ → List Record
all_records s fields field [] = if ends_at_end s then (fields ++ (field ∷ [])) ∷ [] else []
all_records s fields field (c ∷ rest) =
    ended (step default_config s c).1 fields field
    ++ all_records (step default_config s c).0 (fields_then (step default_config s c).1 fields field) (field_after (step default_config s c).1 c field) rest

-- behind the end of a text there is no record
from-end : (n : ℕ) → records_from default_config n st.StartRecord [] ≡ []
unfolding records_from next_record
from-end zero = refl
from-end (suc n) = refl

-- n turns behind the next record find what is left of all records
abbrev Agrees : ℕ → State → Record → List ℕ → List ℕ → Type 0
Agrees n s fields field xs =
    records_next (records_from default_config n) (next_record default_config s fields field xs) ≡ all_records s fields field xs

-- so they do where they find all records of each shorter text
turn-all : (n : ℕ) → ((s : State) (xs : List ℕ) → length xs < n → records_from default_config n s xs ≡ all_records s [] [] xs)
    → (s : State) (fields : Record) (field xs : List ℕ) → length xs < n + 1 → Agrees n s fields field xs
unfolding next_record all_records
turn-all n others s fields field [] below = by (ends_at_end s) refl
  where
    by : (b : Bool) → ends_at_end s ≡ b → Agrees n s fields field []
    by true h = rw h (ap (λ (rs : List Record). (fields ++ (field ∷ [])) ∷ rs) (from-end n))
    by false h = rw h refl
turn-all n others s fields field (c ∷ rest) below =
    let to = step default_config s c in
    by to.1 refl (turn-all n others to.0 (fields_then to.1 fields field) (field_after to.1 c field) rest (omega arith))
  where
    by : (a : Action) → (step default_config s c).1 ≡ a
        → Agrees n (step default_config s c).0 (fields_then (step default_config s c).1 fields field) (field_after (step default_config s c).1 c field) rest
        → Agrees n s fields field (c ∷ rest)
    by act.EndRecord h more = rw h (ap (λ (rs : List Record). (fields ++ (field ∷ [])) ∷ rs) (others (step default_config s c).0 rest (omega arith)))
    by act.EndField h more = rw h (rw h at more)
    by act.Skip h more = rw h (rw h at more)
    by act.Copy h more = rw h (rw h at more)

-- more turns than bytes find all records
turns-all : (n : ℕ) (s : State) (xs : List ℕ) → length xs < n → records_from default_config n s xs ≡ all_records s [] [] xs
unfolding records_from
turns-all zero s xs below = absurd (omega arith)
turns-all (suc n) s xs below = turn-all n (turns-all n) s [] [] xs (omega arith)

records-all : (xs : List ℕ) → records default_config xs ≡ all_records st.StartRecord [] [] xs
records-all xs = turns-all (length xs + 1) st.StartRecord xs (omega arith)

-- outside of quotes, and with nothing at hand where no record has begun
abbrev Plain : State → Record → List ℕ → Type 0
Plain st.StartRecord fields field = (fields ≡ []) × (field ≡ [])
Plain st.AfterCr fields field = (fields ≡ []) × (field ≡ [])
Plain st.StartField fields field = Unit {0}
Plain st.InField fields field = Unit {0}
Plain _ fields field = ⊥

-- a step of this state and this action at a byte leads there
abbrev Leads : State × Action → ℕ → Record → List ℕ → Type 0
Leads to c fields field = Plain to.0 (fields_then to.1 fields field) (field_after to.1 c field)

-- a test leads there where both of its branches do
if-leads : (b : Bool) (x y : State × Action) (c : ℕ) (fields : Record) (field : List ℕ)
    → (b ≡ true → Leads x c fields field) → (b ≡ false → Leads y c fields field) → Leads (if b then x else y) c fields field
if-leads true x y c fields field passes fails = passes refl
if-leads false x y c fields field passes fails = fails refl

-- behind the end of a line no record has begun
end-plain : (c : ℕ) → Plain (after_end term.CRLF c) [] []
end-plain c = by (c == 13)
  where
    by : (b : Bool) → Plain (if b then st.AfterCr else st.StartRecord) [] []
    by true = (refl, refl)
    by false = (refl, refl)

field-leads : (c : ℕ) (fields : Record) (field : List ℕ) → Leads (in_field default_config c) c fields field
field-leads c fields field =
    if-leads (c == 44) (st.StartField, act.EndField) (if (c == 13) || (c == 10) then (after_end term.CRLF c, act.EndRecord) else (st.InField, act.Copy)) c fields field
    (λ comma. tt)
    (λ other. if-leads ((c == 13) || (c == 10)) (after_end term.CRLF c, act.EndRecord) (st.InField, act.Copy) c fields field (λ ends. end-plain c) (λ joins. tt))

start-leads : (c : ℕ) (fields : Record) (field : List ℕ) → (c == 34) ≡ false → Leads (start_field default_config c) c fields field
start-leads c fields field unquoted = rw unquoted (field-leads c fields field)

record-leads : (c : ℕ) (fields : Record) (field : List ℕ) → (c == 34) ≡ false → (fields ≡ []) × (field ≡ []) → Leads (start_record default_config c) c fields field
record-leads c fields field unquoted none =
    if-leads ((c == 13) || (c == 10)) (st.StartRecord, act.Skip) (start_field default_config c) c fields field (λ ends. none) (λ begins. start-leads c fields field unquoted)

-- a byte that is no quote leads from outside of quotes to outside of quotes
step-leads : (s : State) (c : ℕ) (fields : Record) (field : List ℕ) → (c == 34) ≡ false → Plain s fields field → Leads (step default_config s c) c fields field
step-leads st.StartRecord c fields field unquoted plain = record-leads c fields field unquoted plain
step-leads st.StartField c fields field unquoted plain = start-leads c fields field unquoted
step-leads st.InField c fields field unquoted plain = field-leads c fields field
step-leads st.AfterCr c fields field unquoted plain =
    if-leads (c == 10) (st.StartRecord, act.Skip) (start_record default_config c) c fields field (λ feed. plain) (λ other. record-leads c fields field unquoted plain)
step-leads _ c fields field unquoted plain = absurd plain

-- a text without quotes
abbrev Unquoted : List ℕ → Type 0
Unquoted text = list_any (λ c. c == 34) text ≡ false

-- a line feed outside of quotes ends the record at hand
feed-cuts : (rest : List ℕ) (s : State) (fields : Record) (field : List ℕ) → Plain s fields field
    → all_records s fields field (10 ∷ rest) ≡ all_records s fields field (10 ∷ []) ++ all_records st.StartRecord [] [] rest
unfolding all_records
feed-cuts rest st.StartRecord fields field plain = rw (plain.0, plain.1) refl
feed-cuts rest st.AfterCr fields field plain = rw (plain.0, plain.1) refl
feed-cuts rest st.StartField fields field plain = refl
feed-cuts rest st.InField fields field plain = refl
feed-cuts rest _ fields field plain = absurd plain

-- so it does behind bytes that are no quotes
all-cut : (x rest : List ℕ) (s : State) (fields : Record) (field : List ℕ) → Unquoted x → Plain s fields field
    → all_records s fields field (x ++ 10 ∷ rest) ≡ all_records s fields field (x ++ 10 ∷ []) ++ all_records st.StartRecord [] [] rest
unfolding all_records
all-cut [] rest s fields field unquoted plain = feed-cuts rest s fields field plain
all-cut (c ∷ x) rest s fields field unquoted plain =
    let parts = or_parts (c == 34) (list_any (λ b. b == 34) x) unquoted in
    let to = step default_config s c in
    let here = ended to.1 fields field in
    ap (λ (rs : List Record). here ++ rs) (all-cut x rest to.0 (fields_then to.1 fields field) (field_after to.1 c field) parts.1 (step-leads s c fields field parts.0 plain))
    ∙ sym (append_assoc here _ _)

-- a text up to a line feed and its end, and the same without a byte order mark at its start
record Stripped (x rest : List ℕ) : Type 0 where
  left : List ℕ
  unquoted : Unquoted left
  whole : strip_bom (x ++ 10 ∷ rest) ≡ left ++ 10 ∷ rest
  first : strip_bom (x ++ 10 ∷ []) ≡ left ++ 10 ∷ []

-- a line feed is no byte of the mark
feed-first : (rest : List ℕ) → strip_bom (10 ∷ rest) ≡ 10 ∷ rest
unfolding strip_bom
feed-first [] = refl
feed-first (b ∷ []) = refl
feed-first (b ∷ c ∷ rest) = refl

feed-second : (a : ℕ) (rest : List ℕ) → strip_bom (a ∷ 10 ∷ rest) ≡ a ∷ 10 ∷ rest
unfolding strip_bom
feed-second a [] = refl
feed-second a (c ∷ rest) = by (a == 0xEF) refl
  where
    by : (b : Bool) → (a == 0xEF) ≡ b → (if is_bom a 10 c then rest else a ∷ 10 ∷ c ∷ rest) ≡ a ∷ 10 ∷ c ∷ rest
    by true h = rw h refl
    by false h = rw h refl

feed-third : (a b : ℕ) (rest : List ℕ) → strip_bom (a ∷ b ∷ 10 ∷ rest) ≡ a ∷ b ∷ 10 ∷ rest
unfolding strip_bom
feed-third a b rest = by (a == 0xEF) refl (b == 0xBB) refl
  where
    by : (x : Bool) → (a == 0xEF) ≡ x → (y : Bool) → (b == 0xBB) ≡ y → (if is_bom a b 10 then rest else a ∷ b ∷ 10 ∷ rest) ≡ a ∷ b ∷ 10 ∷ rest
    by true h true i = rw (h, i) refl
    by true h false i = rw (h, i) refl
    by false h y i = rw h refl

-- the mark is all before the line feed, or it is not there
strips : (x rest : List ℕ) → Unquoted x → Stripped x rest
unfolding strip_bom
strips [] rest unquoted = record { left = []; unquoted = refl; whole = feed-first rest; first = refl }
strips (a ∷ []) rest unquoted = record { left = a ∷ []; unquoted = unquoted; whole = feed-second a rest; first = refl }
strips (a ∷ b ∷ []) rest unquoted = record { left = a ∷ b ∷ []; unquoted = unquoted; whole = feed-third a b rest; first = feed-third a b [] }
strips (a ∷ b ∷ c ∷ x) rest unquoted = by (is_bom a b c) refl
  where
    behind : Unquoted x
    behind = (or_parts (c == 34) _ (or_parts (b == 34) _ (or_parts (a == 34) _ unquoted).1).1).1

    by : (is : Bool) → is_bom a b c ≡ is → Stripped (a ∷ b ∷ c ∷ x) rest
    by true h = record { left = x; unquoted = behind; whole = rw h refl; first = rw h refl }
    by false h = record { left = a ∷ b ∷ c ∷ x; unquoted = unquoted; whole = rw h refl; first = rw h refl }

-- a text that begins otherwise has no mark at its start
pub unmarked : (text : List ℕ) → (get_or text 0 0 == 0xEF) ≡ false → strip_bom text ≡ text
unfolding strip_bom
unmarked [] other = refl
unmarked (a ∷ []) other = refl
unmarked (a ∷ b ∷ []) other = refl
unmarked (a ∷ b ∷ c ∷ rest) other = rw other refl

-- the records up to a line feed behind bytes that are no quotes, and those behind it
feed_cuts_records : (x rest : List ℕ) → Unquoted x → (get_or rest 0 0 == 0xEF) ≡ false
    → records_of (x ++ 10 ∷ rest) ≡ records_of (x ++ 10 ∷ []) ++ records_of rest
feed_cuts_records x rest unquoted other =
    let stripped = strips x rest unquoted in
    rw (stripped.whole, stripped.first, unmarked rest other, records-all (stripped.left ++ 10 ∷ rest), records-all (stripped.left ++ 10 ∷ []), records-all rest)
    (all-cut stripped.left rest st.StartRecord [] [] stripped.unquoted (refl, refl))

-- a text is cut behind a line feed
pub cut_behind_feed : (text : List ℕ) (feed : ℕ) → feed < length text → get_or text feed 0 ≡ 10
    → list_any (λ c. c == 34) (take (feed + 1) text) ≡ false → (get_or (drop (feed + 1) text) 0 0 == 0xEF) ≡ false
    → records_of text ≡ records_of (take (feed + 1) text) ++ records_of (drop (feed + 1) text)
cut_behind_feed text feed within here unquoted other =
    let x = take feed text in
    let rest = drop (feed + 1) text in
    let first : take (feed + 1) text ≡ x ++ 10 ∷ [] = take_more text feed 0 within ∙ ap (λ (c : ℕ). x ++ c ∷ []) here in
    let second : drop feed text ≡ 10 ∷ rest = rw add-one (drop-cons text feed 0 within ∙ ap (λ (c : ℕ). c ∷ drop (suc feed) text) here) in
    let whole : text ≡ x ++ 10 ∷ rest = sym (take-append-drop feed text) ∙ ap (λ (ys : List ℕ). x ++ ys) second in
    let before : Unquoted x = (or_parts (list_any (λ c. c == 34) x) _ (sym (list_any-append (λ c. c == 34) x (10 ∷ [])) ∙ (sym (ap (list_any (λ c. c == 34)) first) ∙ unquoted))).0 in
    ap records_of whole ∙ (feed_cuts_records x rest before other ∙ ap (λ (ys : List ℕ). records_of ys ++ records_of rest) (sym first))

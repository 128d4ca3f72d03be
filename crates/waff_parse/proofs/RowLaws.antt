-- How the records that a reader has left follow from one another.
use Rattle.std.proofs.Common.{◌≡◌, ℕ, zero, suc, ◌+◌, ◌<◌, List, [], ◌∷◌, ◌++◌, length, Bool, true, false, cond, Option, Some, None, Ok, refl, sym, ap, ◌∙◌, arith, add-one, inl, inr, ◌⊎◌, Bor}
use Rattle.std.specs.Prelude.{◌==◌, ◌&&◌, not}
use Rattle.std.specs.Str.{is_utf8}
use Rattle.std.proofs.lemmas.Bool.{and_parts, and_from, false_from_ne_true}
use Rattle.std.proofs.lemmas.Str.{IsUtf8-from_is_utf8, is_utf8-from_IsUtf8}
use Rattle.csv.specs.Machine.{Read, next_record, step, is_end, ends_at_end, fields_after, field_after}
use Rattle.csv.specs.Reading.{ExplainsRead, strip_bom, Reached, NextIs, ReadRecord, ReadsNext, TookRecord, default_config, has_failed, pending_of, source_of, records_from, records_next}
use Rattle.csv.specs.Records.{AllText}
use Rattle.csv.specs.declared.error.ErrorKind.{ErrorKind}
use Rattle.csv.specs.declared.error.ErrorKind.TheVariants as kind
use Rattle.csv.specs.declared.parser.Config.{Config}
use Rattle.csv.specs.declared.parser.State.{State}
use Rattle.csv.specs.declared.parser.State.TheVariants as st
use Rattle.csv.specs.declared.reader.Reader.{Reader}
use Rattle.csv.proofs.ReadFacts.{rows-end, rows-more}
use Rattle.waff_parse.specs.Rows.{BeginsWithNoText, GivesNext, Reads, Record, is_text, is_not_text, records_after, records_left}

abbrev present : {A : Type 0} → A → Option A
present x = Some x

some-is : {A : Type 0} (x y : A) → present x ≡ present y → x ≡ y
some-is x y e = cc

-- a record takes bytes, or else it is the last one, behind the end
abbrev Shortens : List ℕ → Read → Type 0
Shortens xs p = (length p.2 < length xs) ⊎ ((p.1 ≡ st.StartRecord) × (p.2 ≡ []) × (xs ≡ []))

next-shorter : (cfg : Config) (s : State) (fields : List (List ℕ)) (field xs : List ℕ) (p : Read) → next_record cfg s fields field xs ≡ Some p → Shortens xs p
unfolding next_record
next-shorter cfg s fields field [] p e = by (ends_at_end s) refl
  where
    by : (b : Bool) → ends_at_end s ≡ b → Shortens [] p
    by true h =
        let last = some-is (fields ++ (field ∷ []), st.StartRecord, []) p (rw h at e) in
        inr (sym (ap (λ (q : Read). q.1) last), sym (ap (λ (q : Read). q.2) last), refl)
    by false h = absurd (cc (rw h at e))
next-shorter cfg s fields field (c ∷ rest) p e = by (is_end (step cfg s c).1) refl (next-shorter cfg (step cfg s c).0 (fields_after (step cfg s c).1 fields field) (field_after (step cfg s c).1 c field) rest p)
  where
    inner : Shortens rest p → Shortens (c ∷ rest) p
    inner (inl shorter) = inl (omega arith)
    inner (inr last) = inl (rw last.1 (omega arith))

    by : (b : Bool) → is_end (step cfg s c).1 ≡ b
        → (next_record cfg (step cfg s c).0 (fields_after (step cfg s c).1 fields field) (field_after (step cfg s c).1 c field) rest ≡ Some p → Shortens rest p)
        → Shortens (c ∷ rest) p
    by true h more =
        let last = some-is (fields_after (step cfg s c).1 fields field, (step cfg s c).0, rest) p (rw h at e) in
        let is : rest ≡ p.2 = ap (λ (q : Read). q.2) last in
        inl (rw (← is) (omega arith))
    by false h more = inner (more (rw h at e))

-- behind the end of a text there is no record
records_from-end : (cfg : Config) (n : ℕ) → records_from cfg n st.StartRecord [] ≡ []
unfolding records_from next_record
records_from-end cfg zero = refl
records_from-end cfg (suc n) = refl

-- more turns than bytes are enough
pub records_from-turns : (cfg : Config) (m n : ℕ) (s : State) (xs : List ℕ) → length xs < m → length xs < n → records_from cfg m s xs ≡ records_from cfg n s xs
unfolding records_from
records_from-turns cfg zero n s xs below_m below_n = absurd (omega arith)
records_from-turns cfg (suc m) zero s xs below_m below_n = absurd (omega arith)
records_from-turns cfg (suc m) (suc n) s xs below_m below_n = by (next_record cfg s [] [] xs) refl (records_from-turns cfg m n)
  where
    by : (o : Option Read) → next_record cfg s [] [] xs ≡ o
        → ((t : State) (ys : List ℕ) → length ys < m → length ys < n → records_from cfg m t ys ≡ records_from cfg n t ys)
        → records_next (records_from cfg m) (next_record cfg s [] [] xs) ≡ records_next (records_from cfg n) (next_record cfg s [] [] xs)
    by None h more = rw h refl
    by (Some p) h more = rw h (ap (λ (rs : List Record). p.0 ∷ rs) (then (next-shorter cfg s [] [] xs p h)))
      where
        then : Shortens xs p → records_from cfg m p.1 p.2 ≡ records_from cfg n p.1 p.2
        then (inl shorter) = more p.1 p.2 (omega arith) (omega arith)
        then (inr last) = rw (last.0, last.1) (records_from-end cfg m ∙ sym (records_from-end cfg n))

-- one turn
records_from-step : (cfg : Config) (k n : ℕ) (s : State) (xs : List ℕ) (p : Read) → k ≡ suc n → next_record cfg s [] [] xs ≡ Some p
    → records_from cfg k s xs ≡ p.0 ∷ records_from cfg n p.1 p.2
unfolding records_from
records_from-step cfg k n s xs p e h = rw (e, h) refl

records_from-none : (cfg : Config) (k n : ℕ) (s : State) (xs : List ℕ) → k ≡ suc n → next_record cfg s [] [] xs ≡ None → records_from cfg k s xs ≡ []
unfolding records_from
records_from-none cfg k n s xs e h = rw (e, h) refl

-- the next record, and those after it
pub records_after-step : (s : State) (xs : List ℕ) (p : Read) → next_record default_config s [] [] xs ≡ Some p
    → records_after s (Some xs) ≡ p.0 ∷ records_after p.1 (Some p.2)
unfolding records_after
records_after-step s xs p h =
    records_from-step default_config (length xs + 1) (length xs) s xs p (add-one (length xs)) h
    ∙ ap (λ (rs : List Record). p.0 ∷ rs) (rest (next-shorter default_config s [] [] xs p h))
  where
    rest : Shortens xs p → records_from default_config (length xs) p.1 p.2 ≡ records_from default_config (length p.2 + 1) p.1 p.2
    rest (inl shorter) = records_from-turns default_config (length xs) (length p.2 + 1) p.1 p.2 shorter (omega arith)
    rest (inr last) = rw (last.0, last.1) (records_from-end default_config _ ∙ sym (records_from-end default_config _))

-- the end of the records
pub records_after-end : (s : State) (xs : List ℕ) → next_record default_config s [] [] xs ≡ None → records_after s (Some xs) ≡ []
unfolding records_after
records_after-end s xs h = records_from-none default_config (length xs + 1) (length xs) s xs (add-one (length xs)) h

-- a reader that goes on knows its bytes
abbrev rem_of : Bor (List ℕ) → Option (List ℕ)
rem_of s = Some s.now

one-of : {A : Type 0} (b : Bool) (x y : A) → (z : A) × (cond b (Some x) (Some y) ≡ Some z)
one-of true x y = (x, refl)
one-of false x y = (y, refl)

source-known : (rdr : Reader (Bor (List ℕ))) → has_failed rdr ≡ false → (y : List ℕ) × (source_of rem_of rdr ≡ Some y)
source-known rdr h = rw h (one-of (not rdr.bom_checked && (rdr.at == 0) && (rdr.filled == 0)) (strip_bom rdr.rdr.now) _)

-- a record is text, as a test and as a fact
is_text-from_AllText : (fields : Record) → AllText fields → is_text fields ≡ true
unfolding AllText
is_text-from_AllText [] h = refl
is_text-from_AllText (f ∷ fs) h = and_from (is_utf8 f) (is_text fs) (is_utf8-from_IsUtf8 f h.0) (is_text-from_AllText fs h.1)

AllText-from_is_text : (fields : Record) → is_text fields ≡ true → AllText fields
unfolding AllText
AllText-from_is_text [] h = tt
AllText-from_is_text (f ∷ fs) h =
    let parts = and_parts (is_utf8 f) (is_text fs) h in
    (IsUtf8-from_is_utf8 f parts.0, AllText-from_is_text fs parts.1)

-- the records before and after a read, by the bytes
found-after : (s t : State) (before after : Option (List ℕ)) (y z : List ℕ) (p : Read) (fields : Record)
    → before ≡ Some y → after ≡ Some z → next_record default_config s [] [] y ≡ Some p → fields ≡ p.0 → p.1 ≡ t → p.2 ≡ z
    → records_after s before ≡ fields ∷ records_after t after
found-after s t before after y z p fields b a next f state rest = rw (b, a, f, ← state, ← rest) (records_after-step s y p next)

first-after : (s : State) (before : Option (List ℕ)) (y : List ℕ) (p : Read) → before ≡ Some y → next_record default_config s [] [] y ≡ Some p
    → records_after s before ≡ p.0 ∷ records_after p.1 (Some p.2)
first-after s before y p b next = rw b (records_after-step s y p next)

-- the record that a read took
next-some : (o : Option Read) (fields : Record) (s : State) (z : List ℕ) → NextIs o true fields s z → (p : Read) × (o ≡ Some p) × (fields ≡ p.0)
next-some None fields s z n = absurd (cc n)
next-some (Some p) fields s z n = (p, refl, n.1)

took-first : (cfg : Config) (s t : State) (y : List ℕ) (after : Option (List ℕ)) (fields : Record) → ReadsNext cfg s (Some y) after true fields t
    → (p : Read) × (next_record cfg s [] [] y ≡ Some p) × (fields ≡ p.0)
took-first cfg s t y None fields r = absurd r
took-first cfg s t y (Some z) fields r = next-some _ fields t z r

-- a read that found a record
pub next-found : (a b : Reader (Bor (List ℕ))) (fields : Record) → Reads a → ReadRecord rem_of a b true fields → AllText fields
    → (records_left a ≡ fields ∷ records_left b) × (is_text fields ≡ true)
unfolding Reached
next-found a b fields reads r text =
    let known = source-known a reads.goes_on in
    let m = rows-more rem_of a b fields default_config a.state known.0 known.0 [] reads.config known.1 (refl, refl) r in
    let step = m.2 in
    (found-after a.state b.state _ _ known.0 m.0 step.0 fields known.1 m.1 step.1 step.2 step.3.0 step.3.1, is_text-from_AllText fields text)

-- a read that found none
pub next-none : (a b : Reader (Bor (List ℕ))) (fields : Record) → Reads a → ReadRecord rem_of a b false fields → records_left a ≡ []
next-none a b fields reads r =
    let known = source-known a reads.goes_on in
    rw known.1 (records_after-end a.state known.0 (rows-end rem_of a b fields default_config known.0 reads.config known.1 r))

-- a read that found one which is no text
pub next-no-text : (a b : Reader (Bor (List ℕ))) (fields : Record) → Reads a → TookRecord rem_of a b fields → ¬ (AllText fields) → BeginsWithNoText (records_left a)
next-no-text a b fields reads took no_text =
    let known = source-known a reads.goes_on in
    let first = took-first default_config a.state b.state known.0 (pending_of (rem_of b.rdr) b) fields (rw (reads.config, known.1) at took) in
    let p = first.0 in
    let left : records_left a ≡ p.0 ∷ records_after p.1 (Some p.2) = first-after a.state _ known.0 p known.1 first.1 in
    let bad : is_text p.0 ≡ false = rw (← first.2) (false_from_ne_true (is_text fields) (λ is. no_text (AllText-from_is_text fields is))) in
    (p.0, records_after p.1 (Some p.2), left, bad)

-- what a read that gave no error says
pub gives-next : (a b : Reader (Bor (List ℕ))) (found : Bool) (fields : Record) → Reads a → ReadRecord rem_of a b found fields → AllText fields
    → GivesNext (Ok found) (records_left a) fields (records_left b)
gives-next a b true fields reads r text = next-found a b fields reads r text
gives-next a b false fields reads r text = next-none a b fields reads r

-- what a refusal for a field that is no text says
pub gives-no-text : (a b : Reader (Bor (List ℕ))) (why : ErrorKind) → Reads a → ExplainsRead rem_of a b true why → is_not_text why ≡ true
    → BeginsWithNoText (records_left a)
gives-no-text a b (kind.Utf8 pos err) reads h is = next-no-text a b h.1 reads h.2 h.3
gives-no-text a b (kind.Io e) reads h is = absurd (cc is)
gives-no-text a b kind.OutOfMemory reads h is = absurd (cc is)
gives-no-text a b (kind.UnequalLengths pos expected len) reads h is = absurd (cc is)
gives-no-text a b (kind.Serialize text) reads h is = absurd (cc is)
gives-no-text a b (kind.Deserialize pos err) reads h is = absurd (cc is)

-- A row after the rows so far, in the words of the format.
use Rattle.std.proofs.Common.{◌≡◌, ◌⊎◌, ℕ, ◌≤◌, length, Bool, true, false, Option, Some, None, Result, Ok, Err, IfSome, codes, refl, ap, sym, ◌∙◌, inl, inr, arith}
use Rattle.std.specs.Prelude.{◌||◌, is_some, nat_lt, ok_or, option_and_then, if◌then◌else◌}
use Rattle.std.proofs.lemmas.Bool.{and_parts, ltb-false, ltb-true, or_cases}
use Rattle.std.proofs.lemmas.Slice.Eq.{bytes_eq-Decides}
use Rattle.waff_model.specs.Names.{is_name}
use Rattle.waff_model.specs.declared.limits.TheConstants.{MAX_TICK}
use Rattle.waff_parse.specs.Fields.{Field, five_of}
use Rattle.waff_parse.specs.Refusals.{◌>>=◌}
use Rattle.waff_parse.specs.Rows.{Record}
use Rattle.waff_parse.specs.Texts.{number_of, number_within, within}
use Rattle.waff_plan_text.specs.Fields.{is_dash, is_worker, number_within_limit, worker_of}
use Rattle.waff_plan_text.specs.Refused.{HasSmallNumbers, IsRowOf, IsRowOfFive, IsWorkerField, SpellsRow}
use Rattle.waff_plan_text.specs.Rows.{Slots, fresh, is_row, numbered_row_of, numbered_row_of_five, row_of, row_of_fields, shaped, slot_of}
use Rattle.waff_plan_text.specs.declared.refusal.Refusal.{Refusal}
use Rattle.waff_plan_text.specs.declared.refusal.Refusal.TheVariants as refusal
use Rattle.waff_plan_text.specs.declared.row.NumberedRow.{NumberedRow}
use Rattle.waff_plan_text.specs.declared.row.Row.{Row}

-- what a number from low to high says of its text
abbrev pub NumberIn : ℕ → ℕ → Field → Option ℕ → Type 0
NumberIn low high text (Some n) = (number_of text ≡ Some n) × (low ≤ n) × (n ≤ high)
NumberIn low high text None = (n : ℕ) → number_of text ≡ Some n → low ≤ n → n ≤ high → ⊥

pub number_in : (low high : ℕ) (text : Field) → NumberIn low high text (number_within low high text)
number_in low high text = by (number_of text) refl
  where
    limits : (n : ℕ) → number_of text ≡ Some n → (a b : Bool) → nat_lt n low ≡ a → nat_lt high n ≡ b
        → NumberIn low high text (if a then None else if b then None else Some n)
    limits n is true b p q = λ m same from to. let one : n ≡ m = cc in let below = ltb-true n low p in absurd (omega (arith, one, below, from))
    limits n is false true p q = λ m same from to. let one : n ≡ m = cc in let above = ltb-true high n q in absurd (omega (arith, one, above, to))
    limits n is false false p q = (is, ltb-false n low p, ltb-false high n q)

    by : (o : Option ℕ) → number_of text ≡ o → NumberIn low high text (option_and_then (within low high) o)
    by None is = λ m same from to. absurd (cc)
    by (Some n) is = limits n is (nat_lt n low) (nat_lt high n) refl refl

-- a refusal for a number above the limit, because of P, and no other
abbrev LargeOnly : Type 0 → Refusal → Type 0
LargeOnly P refusal.TooLarge = P
LargeOnly P _ = ⊥

large_because : (P Q : Type 0) → (P → Q) → (e : Refusal) → LargeOnly P e → LargeOnly Q e
large_because P Q f refusal.TooLarge h = f h
large_because P Q f _ h = h

-- the number n, within the limit or not
abbrev TickIs : ℕ → Result ℕ Refusal → Type 0
TickIs n (Ok m) = (m ≡ n) × (n ≤ MAX_TICK)
TickIs n (Err e) = LargeOnly (n ≤ MAX_TICK → ⊥) e

tick_is : (text : Field) (n : ℕ) → number_of text ≡ Some n → TickIs n (number_within_limit text)
tick_is text n is = by (number_within 0 MAX_TICK text) (number_in 0 MAX_TICK text)
  where
    by : (o : Option ℕ) → NumberIn 0 MAX_TICK text o → TickIs n (ok_or o refusal.TooLarge)
    by None none = λ to. none n is (omega arith) to
    by (Some m) found = let one : m ≡ n = let s = found.0 in cc in (one, rw (← one) found.2)

-- a worker, or none
abbrev WorkerIs : Option ℕ → Result (Option ℕ) Refusal → Type 0
WorkerIs worker (Ok other) = (other ≡ worker) × IfSome worker (λ w. w ≤ MAX_TICK)
WorkerIs worker (Err e) = LargeOnly (IfSome worker (λ w. w ≤ MAX_TICK) → ⊥) e

worker_is : (text : Field) (worker : Option ℕ) → IsWorkerField text worker → WorkerIs worker (worker_of text)
worker_is text None is = rw is (refl, tt)
worker_is text (Some w) is = by (is_dash text) refl
  where
    number : (r : Result ℕ Refusal) → TickIs w r → WorkerIs (Some w) (r >>= (λ n. Ok (Some n)))
    number (Ok n) tick = (ap Some tick.0, tick.1)
    number (Err e) large = large

    by : (t : Bool) → is_dash text ≡ t → WorkerIs (Some w) (if t then Ok None else (number_within_limit text >>= (λ n. Ok (Some n))))
    by true dash =
        let same : text ≡ codes "-" = (bytes_eq-Decides text (codes "-")).0 dash in
        let none : number_of (codes "-") ≡ None = refl in
        let some : number_of (codes "-") ≡ Some w = ap number_of (sym same) ∙ is in
        absurd (cc)
    by false other = number (number_within_limit text) (tick_is text w is)

-- what fields are read as, where they are a row
abbrev FieldsAre : Row → Result Row Refusal → Type 0
FieldsAre row (Ok other) = (other ≡ row) × HasSmallNumbers row
FieldsAre row (Err e) = LargeOnly (HasSmallNumbers row → ⊥) e

fields_are : (affinity start finish worker : Field) (row : Row) → row.affinity ≡ affinity → number_of start ≡ Some row.start → number_of finish ≡ Some row.finish
    → IsWorkerField worker row.worker → FieldsAre row (row_of_fields affinity start finish worker)
unfolding row_of_fields
fields_are affinity start finish worker row named s f w =
    by (number_within_limit start) (number_within_limit finish) (worker_of worker) (tick_is start row.start s) (tick_is finish row.finish f) (worker_is worker row.worker w)
  where
    by : (rs rf : Result ℕ Refusal) (rk : Result (Option ℕ) Refusal) → TickIs row.start rs → TickIs row.finish rf → WorkerIs row.worker rk
        → FieldsAre row (do
          start ← rs
          finish ← rf
          worker ← rk
          Ok (record { affinity = affinity; start = start; finish = finish; worker = worker }))
    by (Err e) rf rk hs hf hk = large_because (row.start ≤ MAX_TICK → ⊥) (HasSmallNumbers row → ⊥) (λ large small. large small.times.start) e hs
    by (Ok s) (Err e) rk hs hf hk = large_because (row.finish ≤ MAX_TICK → ⊥) (HasSmallNumbers row → ⊥) (λ large small. large small.times.finish) e hf
    by (Ok s) (Ok f) (Err e) hs hf hk = large_because (IfSome row.worker (λ w. w ≤ MAX_TICK) → ⊥) (HasSmallNumbers row → ⊥) (λ large small. large small.worker) e hk
    by (Ok s) (Ok f) (Ok k) hs hf hk =
        let whole : ◌≡◌ {A = Row} (record { affinity = affinity; start = s; finish = f; worker = k }) row = rw (hs.0, hf.0, hk.0, ← named) refl in
        (whole, record { times = record { start = hs.1; finish = hf.1 }; worker = hk.1 })

-- fields behind a number are a row, in numbers of any length
record SpellsRest (name start_text finish_text worker_text : Field) (row : Row) : Type 0 where
  named : is_name name ≡ true
  affinity : row.affinity ≡ name
  start : number_of start_text ≡ Some row.start
  finish : number_of finish_text ≡ Some row.finish
  worker : IsWorkerField worker_text row.worker

pub number_some : (o : Option ℕ) → is_some o ≡ true → (n : ℕ) × (o ≡ Some n)
number_some None h = absurd (cc)
number_some (Some n) h = (n, refl)

worker_some : (text : Field) → is_worker text ≡ true → (worker : Option ℕ) × IsWorkerField text worker
worker_some text h = by (or_cases (is_dash text) (is_some (number_of text)) h)
  where
    by : (is_dash text ≡ true) ⊎ (is_some (number_of text) ≡ true) → (worker : Option ℕ) × IsWorkerField text worker
    by (inl dash) = (None, (bytes_eq-Decides text (codes "-")).0 dash)
    by (inr some) = let found = number_some (number_of text) some in (Some found.0, found.1)

rest_of : (affinity start finish worker : Field) → is_row affinity start finish worker ≡ true → (row : Row) × SpellsRest affinity start finish worker row
rest_of affinity start finish worker h =
    let one = and_parts (is_name affinity) _ h in
    let two = and_parts (is_some (number_of start)) _ one.1 in
    let three = and_parts (is_some (number_of finish)) _ two.1 in
    let s = number_some (number_of start) two.0 in
    let f = number_some (number_of finish) three.0 in
    let w = worker_some worker three.1 in (
      record { affinity = affinity; start = s.0; finish = f.0; worker = w.0 },
      record { named = one.0; affinity = refl; start = s.1; finish = f.1; worker = w.1 },
    )

worker_true : (text : Field) (worker : Option ℕ) → IsWorkerField text worker → is_worker text ≡ true
worker_true text None is = rw is refl
worker_true text (Some w) is = rw is (or_true (is_dash text))
  where
    or_true : (t : Bool) → (t || true) ≡ true
    or_true true = refl
    or_true false = refl

row_true : (messages : ℕ) (message affinity start finish worker : Field) (n : ℕ) (row : Row) → SpellsRow messages message affinity start finish worker n row
    → is_row affinity start finish worker ≡ true
row_true messages message affinity start finish worker n row spells =
    rw (spells.named, spells.start, spells.finish, worker_true worker row.worker spells.worker) refl

-- why five fields are refused as a row after the rows so far
abbrev pub RefusedAs : Slots → Option (Field × Field × Field × Field × Field) → Refusal → Type 0
RefusedAs slots fields refusal.Row = (n : ℕ) (row : Row) → IsRowOfFive (length slots) fields n row → ⊥
RefusedAs slots fields refusal.Twice = (n : ℕ) × (row : Row) × (other : Row) × IsRowOfFive (length slots) fields n row × (slot_of slots n ≡ Some other)
RefusedAs slots fields refusal.TooLarge =
    (n : ℕ) × (row : Row) × IsRowOfFive (length slots) fields n row × (HasSmallNumbers row → ⊥) × (slot_of slots n ≡ None)
RefusedAs slots fields _ = ⊥

-- and what they are read as
abbrev pub ReadAs : Slots → Option (Field × Field × Field × Field × Field) → Result NumberedRow Refusal → Type 0
ReadAs slots fields (Ok given) =
    IsRowOfFive (length slots) fields given.message given.row × HasSmallNumbers given.row × (slot_of slots given.message ≡ None)
ReadAs slots fields (Err e) = RefusedAs slots fields e

module _ (slots : Slots) (message affinity start finish worker : Field) where
  abbrev Verdict : Result NumberedRow Refusal → Type 0
  Verdict = ReadAs slots (Some (message, affinity, start, finish, worker))

  too_large : (n : ℕ) (row : Row) → SpellsRow (length slots) message affinity start finish worker n row → slot_of slots n ≡ None
      → (e : Refusal) → LargeOnly (HasSmallNumbers row → ⊥) e → Verdict (Err e)
  too_large n row spells free refusal.TooLarge h = (n, row, spells, h, free)
  too_large n row spells free _ h = absurd h

  five_read : Verdict (numbered_row_of slots message affinity start finish worker)
  unfolding numbered_row_of
  five_read = by (number_within 1 (length slots) message) (number_in 1 (length slots) message)
    where
      rest : (n : ℕ) (row : Row) → SpellsRow (length slots) message affinity start finish worker n row → slot_of slots n ≡ None
          → (r : Result Row Refusal) → FieldsAre row r → Verdict (r >>= (λ row. Ok (record { message = n; row = row })))
      rest n row spells free (Ok other) are = (rw are.0 spells, rw are.0 are.1, free)
      rest n row spells free (Err e) large = too_large n row spells free e large

      slot : (n : ℕ) (row : Row) → SpellsRow (length slots) message affinity start finish worker n row → (o : Option Row) → slot_of slots n ≡ o
          → Verdict (fresh o >>= (λ _. row_of_fields affinity start finish worker >>= (λ row. Ok (record { message = n; row = row }))))
      slot n row spells (Some other) is = (n, row, other, spells, is)
      slot n row spells None is =
          rest n row spells is (row_of_fields affinity start finish worker)
          (fields_are affinity start finish worker row spells.affinity spells.start spells.finish spells.worker)

      shape : (n : ℕ) → NumberIn 1 (length slots) message (Some n) → (t : Bool) → is_row affinity start finish worker ≡ t
          → Verdict (shaped t >>= (λ _. fresh (slot_of slots n) >>= (λ _. row_of_fields affinity start finish worker >>= (λ row. Ok (record { message = n; row = row })))))
      shape n found false is = λ m row spells. let true_row = row_true (length slots) message affinity start finish worker m row spells in absurd (cc)
      shape n found true is =
          let rest = rest_of affinity start finish worker is in
          let r = rest.1 in
          slot n rest.0
          (record { number = found.0; from = found.1; to = found.2; named = r.named; affinity = r.affinity; start = r.start; finish = r.finish; worker = r.worker })
          (slot_of slots n) refl

      by : (o : Option ℕ) → NumberIn 1 (length slots) message o
          → Verdict (ok_or o refusal.Row >>= (λ n. shaped (is_row affinity start finish worker) >>= (λ _. fresh (slot_of slots n)
          >>= (λ _. row_of_fields affinity start finish worker >>= (λ row. Ok (record { message = n; row = row }))))))
      by None none = λ n row spells. none n spells.number spells.from spells.to
      by (Some n) found = shape n found (is_row affinity start finish worker) refl

pub row_read : (slots : Slots) (fields : Record) → ReadAs slots (five_of fields) (row_of slots fields)
row_read slots fields = by (five_of fields)
  where
    by : (o : Option (Field × Field × Field × Field × Field)) → ReadAs slots o (numbered_row_of_five slots o)
    by None = λ n row never. never
    by (Some f) = five_read slots f.0 f.1 f.2 f.3 f.4

-- a record is a row of one message, and says one thing
pub one_message : (messages : ℕ) (fields : Record) (n m : ℕ) (row other : Row) → IsRowOf messages fields n row → IsRowOf messages fields m other → n ≡ m
one_message messages fields n m row other = by (five_of fields)
  where
    by : (o : Option (Field × Field × Field × Field × Field)) → IsRowOfFive messages o n row → IsRowOfFive messages o m other → n ≡ m
    by None h k = absurd h
    by (Some f) h k = let a = h.number in let b = k.number in cc

one_worker : (text : Field) (worker other : Option ℕ) → IsWorkerField text worker → IsWorkerField text other → worker ≡ other
one_worker text None None h k = refl
one_worker text None (Some w) h k = let none : number_of (codes "-") ≡ None = refl in let some = ap number_of (sym h) ∙ k in absurd (cc)
one_worker text (Some w) None h k = let none : number_of (codes "-") ≡ None = refl in let some = ap number_of (sym k) ∙ h in absurd (cc)
one_worker text (Some w) (Some v) h k = cc

pub one_row : (messages : ℕ) (fields : Record) (n m : ℕ) (row other : Row) → IsRowOf messages fields n row → IsRowOf messages fields m other → row ≡ other
one_row messages fields n m row other = by (five_of fields)
  where
    by : (o : Option (Field × Field × Field × Field × Field)) → IsRowOfFive messages o n row → IsRowOfFive messages o m other → row ≡ other
    by None h k = absurd h
    by (Some f) h k =
        let name : row.affinity ≡ other.affinity = h.affinity ∙ sym k.affinity in
        let start : row.start ≡ other.start = let a = h.start in let b = k.start in cc in
        let finish : row.finish ≡ other.finish = let a = h.finish in let b = k.finish in cc in
        let worker : row.worker ≡ other.worker = one_worker f.4 row.worker other.worker h.worker k.worker in
        let whole : ◌≡◌ {A = Row} (record { affinity = row.affinity; start = row.start; finish = row.finish; worker = row.worker }) other =
        rw (name, start, finish, worker) refl in
        whole

pub row_within : (messages : ℕ) (fields : Record) (n : ℕ) (row : Row) → IsRowOf messages fields n row → (1 ≤ n) × (n ≤ messages)
row_within messages fields n row = by (five_of fields)
  where
    by : (o : Option (Field × Field × Field × Field × Field)) → IsRowOfFive messages o n row → (1 ≤ n) × (n ≤ messages)
    by None h = absurd h
    by (Some f) h = (h.from, h.to)

-- The rows so far, by message, are those of the records so far.
use Rattle.std.proofs.Common.{◌≡◌, ◌⊎◌, ℕ, zero, suc, ◌+◌, ◌<◌, ◌≤◌, List, [], ◌∷◌, ◌++◌, length, map, get_or, replicate, Option, Some, None, Result, Ok, Err, refl, ap, sym, ◌∙◌, arith, inl, inr}
use Rattle.std.specs.Prelude.{◌-◌, Contains}
use Rattle.std.proofs.Math.ListN.{length-set}
use Rattle.std.proofs.lemmas.Bool.{cases_eq}
use Rattle.std.proofs.lemmas.Grind.{get_or-set_at}
use Rattle.std.proofs.lemmas.List.{get_or-replicate, get_or-set_other, length-replicate}
use Rattle.std.proofs.lemmas.List.Elements.{Contains-append_cases, Contains-append_left, Contains-push}
use Rattle.waff_parse.specs.Refusals.{◌>>=◌}
use Rattle.waff_parse.specs.Rows.{Record}
use Rattle.waff_parse.specs.Walks.{walk}
use Rattle.waff_plan_text.specs.PlanTexts.{next_message, put, row_in}
use Rattle.waff_plan_text.specs.Refused.{IsRowOf}
use Rattle.waff_plan_text.specs.Rows.{Slots, slot_of}
use Rattle.waff_plan_text.specs.declared.refusal.PlanTextError.{PlanTextError}
use Rattle.waff_plan_text.specs.declared.refusal.PlanTextError.TheVariants as error
use Rattle.waff_plan_text.specs.declared.row.NumberedRow.{NumberedRow}
use Rattle.waff_plan_text.specs.declared.row.Row.{Row}
use Rattle.waff_plan_text.proofs.RowLaws.{one_message, one_row, row_within}

abbrev none : Option Row
none = None

pub record Kept (messages : ℕ) (slots : Slots) (before : List Record) : Type 0 where
  pub count : length slots ≡ messages
  pub has : (n : ℕ) (row : Row) → 1 ≤ n → n ≤ messages → slot_of slots n ≡ Some row → (fields : Record) × Contains before fields × IsRowOf messages fields n row
  pub kept : (fields : Record) (n : ℕ) (row : Row) → Contains before fields → IsRowOf messages fields n row → slot_of slots n ≡ Some row

pub kept_start : (messages : ℕ) → Kept messages (replicate messages None) []
kept_start messages = record {
  count = length-replicate messages none;
  has = λ n row from to is. let free : slot_of (replicate messages none) n ≡ None = get_or-replicate messages (n - 1) none none (omega arith) in absurd (cc);
  kept = λ fields n row (k, lt, is) spells. absurd (omega (arith, lt));
}

only_one : (row fields : Record) → Contains (row ∷ []) fields → row ≡ fields
only_one row fields (zero, lt, is) = is
only_one row fields (suc k, lt, is) = absurd (omega (arith, lt))

module _ (messages : ℕ) (slots : Slots) (before : List Record) (row : Record) (given : NumberedRow) (so_far : Kept messages slots before)
    (spells : IsRowOf messages row given.message given.row) (free : slot_of slots given.message ≡ None) where
  put_same : (n : ℕ) → n ≡ given.message → slot_of (put slots given) n ≡ Some given.row
  put_same n is =
      let w = row_within messages row given.message given.row spells in
      get_or-set_at slots (given.message - 1) (n - 1) (Some given.row) none (omega (arith, is)) (omega (arith, w.0, w.1, so_far.count))

  put_other : (n : ℕ) → 1 ≤ n → (n ≡ given.message → ⊥) → slot_of (put slots given) n ≡ slot_of slots n
  put_other n from differs =
      let w = row_within messages row given.message given.row spells in
      get_or-set_other slots (given.message - 1) (n - 1) (Some given.row) none (λ same. differs (omega (arith, same, from, w.0)))

  pub kept_put : Kept messages (put slots given) (before ++ row ∷ [])
  kept_put = record {
    count = length-set slots (given.message - 1) (Some given.row) ∙ so_far.count;
    has = λ n r from to is. has n r from to is (cases_eq n given.message);
    kept = λ fields n r among is. kept fields n r is (Contains-append_cases before (row ∷ []) fields among);
  }
    where
      has : (n : ℕ) (r : Row) → 1 ≤ n → n ≤ messages → slot_of (put slots given) n ≡ Some r → (n ≡ given.message) ⊎ (n ≡ given.message → ⊥)
          → (fields : Record) × Contains (before ++ row ∷ []) fields × IsRowOf messages fields n r
      has n r from to is (inl same) =
          let put : slot_of (put slots given) n ≡ Some given.row = put_same n same in
          let value : given.row ≡ r = cc in
          (row, Contains-push before row, rw (same, ← value) spells)
      has n r from to is (inr differs) =
          let found = so_far.has n r from to (sym (put_other n from differs) ∙ is) in
          (found.0, Contains-append_left before (row ∷ []) found.0 found.1, found.2)

      kept : (fields : Record) (n : ℕ) (r : Row) → IsRowOf messages fields n r → Contains before fields ⊎ Contains (row ∷ []) fields
          → slot_of (put slots given) n ≡ Some r
      kept fields n r is (inl among) =
          let old : slot_of slots n ≡ Some r = so_far.kept fields n r among is in
          let w = row_within messages fields n r is in
          put_other n w.0 (λ same. let here : slot_of slots n ≡ None = ap (slot_of slots) same ∙ free in absurd (cc)) ∙ old
      kept fields n r is (inr among) =
          let this : row ≡ fields = only_one row fields among in
          let other : IsRowOf messages row n r = rw this is in
          put_same n (one_message messages row n given.message r given.row other spells)
          ∙ ap Some (one_row messages row given.message n given.row r spells other)

-- all rows in order, or the first message without one
abbrev pub RowsAre : ℕ → Slots → Result (List Row) PlanTextError → Type 0
RowsAre before slots (Ok rows) = slots ≡ map Some rows
RowsAre before slots (Err e) =
    (j : ℕ) × (e ≡ error.Missing (before + j + 1)) × (j < length slots) × (get_or slots j none ≡ None)
    × ((i : ℕ) → i < j → (row : Row) × (get_or slots i none ≡ Some row))

pub rows_are : (before : ℕ) (slots : Slots) → RowsAre before slots (walk row_in next_message before slots)
unfolding walk
rows_are before [] = refl
rows_are before (None ∷ more) = (0, ap error.Missing (omega arith), omega arith, refl, λ i lt. absurd (omega (arith, lt)))
rows_are before (Some row ∷ more) = by (walk row_in next_message (before + 1) more) (rows_are (before + 1) more)
  where
    earlier : (j i : ℕ) → ((i : ℕ) → i < j → (row : Row) × (get_or more i none ≡ Some row)) → i < suc j
        → (r : Row) × (get_or (Some row ∷ more) i none ≡ Some r)
    earlier j zero all lt = (row, refl)
    earlier j (suc i) all lt = all i (omega (arith, lt))

    by : (r : Result (List Row) PlanTextError) → RowsAre (before + 1) more r → RowsAre before (Some row ∷ more) (r >>= (λ rows. Ok (row ∷ rows)))
    by (Ok rows) is = ap (λ (slots : Slots). Some row ∷ slots) is
    by (Err e) (j, is, lt, free, all) = (suc j, is ∙ ap error.Missing (omega arith), omega (arith, lt), free, λ i lt. earlier j i all lt)

-- a message has a row where there are all rows
pub slot_filled : (rows : List Row) (slots : Slots) (n : ℕ) → slots ≡ map Some rows → 1 ≤ n → n ≤ length slots → (row : Row) × (slot_of slots n ≡ Some row)
slot_filled rows slots n is from to = by (n - 1) rows slots is (omega arith)
  where
    by : (i : ℕ) (rows : List Row) (slots : Slots) → slots ≡ map Some rows → i < length slots → (row : Row) × (get_or slots i none ≡ Some row)
    by i rows [] is lt = absurd (omega (arith, lt))
    by i [] (slot ∷ slots) is lt = absurd (cc)
    by zero (row ∷ rows) (slot ∷ slots) is lt = let first : slot ≡ Some row = cc in (row, first)
    by (suc i) (row ∷ rows) (slot ∷ slots) is lt = let others : slots ≡ map Some rows = cc in by i rows slots others (omega (arith, lt))

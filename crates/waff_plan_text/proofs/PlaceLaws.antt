-- Places in a list of records, and the summary of those before.
use Rattle.std.proofs.Common.{◌≡◌, ℕ, zero, suc, ◌<◌, ◌≤◌, List, [], ◌∷◌, ◌++◌, length, drop, take, Bool, true, false, Some, slice_get, refl, ap, ◌∙◌, arith}
use Rattle.std.specs.Prelude.{Contains, if◌then◌else◌}
use Rattle.std.proofs.lemmas.Option.{get_or_from_slice_get, slice_get-get_or, slice_get_within}
use Rattle.waff_parse.specs.Rows.{Record}
use Rattle.waff_plan_text.specs.Exact.{rows_in_front}
use Rattle.waff_plan_text.specs.Refused.{summary_in}
use Rattle.waff_plan_text.specs.Summaries.{begins_summary}

-- the item at a place, and the list before and behind it
pub record IsAt {A : Type 0} (items : List A) (place : ℕ) (item : A) (more : List A) : Type 0 where
  pub there : slice_get items place ≡ Some item
  pub before : take (suc place) items ≡ take place items ++ item ∷ []
  pub behind : drop (suc place) items ≡ more
  pub within : suc place ≤ length items

pub is_at : {A : Type 0} (items : List A) (place : ℕ) (item : A) (more : List A) → drop place items ≡ item ∷ more → IsAt items place item more
is_at [] zero item more h = absurd (cc)
is_at [] (suc place) item more h = absurd (cc)
is_at (x ∷ items) zero item more h =
    let first : x ≡ item = cc in
    let others : items ≡ more = cc in
    record { there = ap Some first; before = ap (λ y. y ∷ []) first; behind = others; within = omega arith }
is_at (x ∷ items) (suc place) item more h =
    let at = is_at items place item more h in
    record { there = at.there; before = ap (λ ys. x ∷ ys) at.before; behind = at.behind; within = omega (arith, at.within) }

pub at_end : {A : Type 0} (items : List A) (place : ℕ) → drop place items ≡ [] → length items ≤ place
at_end [] place h = omega arith
at_end (x ∷ items) zero h = absurd (cc)
at_end (x ∷ items) (suc place) h = let past = at_end items place h in omega (arith, past)

-- the summary so far with one record more
pub summary_none : (before : List Record) (row : Record) → summary_in before ≡ []
    → summary_in (before ++ row ∷ []) ≡ (if begins_summary row then row ∷ [] else [])
summary_none [] row h = refl
summary_none (first ∷ before) row h = by (begins_summary first) h (summary_none before row)
  where
    by : (t : Bool) → (if t then first ∷ before else summary_in before) ≡ []
        → (summary_in before ≡ [] → summary_in (before ++ row ∷ []) ≡ (if begins_summary row then row ∷ [] else []))
        → (if t then first ∷ (before ++ row ∷ []) else summary_in (before ++ row ∷ [])) ≡ (if begins_summary row then row ∷ [] else [])
    by true is others = absurd (cc)
    by false is others = others is

grown : (before : List Record) (row : Record) → length (before ++ row ∷ []) ≡ suc (length before)
grown [] row = refl
grown (first ∷ before) row = ap suc (grown before row)

pub summary_more : (before : List Record) (row : Record) (n : ℕ) → length (summary_in before) ≡ suc n → length (summary_in (before ++ row ∷ [])) ≡ suc (suc n)
summary_more [] row n h = absurd (omega (arith, h))
summary_more (first ∷ before) row n h = by (begins_summary first) h (summary_more before row n)
  where
    by : (t : Bool) → length (if t then first ∷ before else summary_in before) ≡ suc n
        → (length (summary_in before) ≡ suc n → length (summary_in (before ++ row ∷ [])) ≡ suc (suc n))
        → length (if t then first ∷ (before ++ row ∷ []) else summary_in (before ++ row ∷ [])) ≡ suc (suc n)
    by true is others = ap suc (grown before row) ∙ ap suc is
    by false is others = others is

-- the records in front of the summary
pub parted : (rows : List Record) (k : ℕ) (row : Record) (more : List Record) → drop k rows ≡ row ∷ more → summary_in (take k rows) ≡ [] → begins_summary row ≡ true
    → (rows_in_front rows ≡ take k rows) × (summary_in rows ≡ row ∷ more)
parted [] zero row more h none begins = absurd (cc)
parted [] (suc k) row more h none begins = absurd (cc)
parted (x ∷ rows) zero row more h none begins =
    let first : x ≡ row = cc in
    let same : begins_summary x ≡ true = ap begins_summary first ∙ begins in
    (ap (λ t. if t then [] else x ∷ rows_in_front rows) same, ap (λ t. if t then x ∷ rows else summary_in rows) same ∙ h)
parted (x ∷ rows) (suc k) row more h none begins = by (begins_summary x) none (λ none. parted rows k row more h none begins)
  where
    by : (t : Bool) → (if t then x ∷ take k rows else summary_in (take k rows)) ≡ []
        → (summary_in (take k rows) ≡ [] → (rows_in_front rows ≡ take k rows) × (summary_in rows ≡ row ∷ more))
        → ((if t then [] else x ∷ rows_in_front rows) ≡ x ∷ take k rows) × ((if t then x ∷ rows else summary_in rows) ≡ row ∷ more)
    by true is others = absurd (cc)
    by false is others = let o = others is in (ap (λ rs. x ∷ rs) o.0, o.1)

pub front_same : (rows : List Record) (k j : ℕ) → summary_in (take k rows) ≡ [] → j < k → slice_get (rows_in_front rows) j ≡ slice_get rows j
front_same [] k j none lt = refl
front_same (x ∷ rows) zero j none lt = absurd (omega (arith, lt))
front_same (x ∷ rows) (suc k) zero none lt = by (begins_summary x) none
  where
    by : (t : Bool) → (if t then x ∷ take k rows else summary_in (take k rows)) ≡ []
        → slice_get (if t then [] else x ∷ rows_in_front rows) 0 ≡ Some x
    by true is = absurd (cc)
    by false is = refl
front_same (x ∷ rows) (suc k) (suc j) none lt = by (begins_summary x) none (λ none. front_same rows k j none (omega (arith, lt)))
  where
    by : (t : Bool) → (if t then x ∷ take k rows else summary_in (take k rows)) ≡ []
        → (summary_in (take k rows) ≡ [] → slice_get (rows_in_front rows) j ≡ slice_get rows j)
        → slice_get (if t then [] else x ∷ rows_in_front rows) (suc j) ≡ slice_get rows j
    by true is others = absurd (cc)
    by false is others = others is

pub none_before : (rows : List Record) (k j : ℕ) → summary_in (take k rows) ≡ [] → j ≤ k → summary_in (take j rows) ≡ []
none_before rows k zero none le = refl
none_before [] k (suc j) none le = refl
none_before (x ∷ rows) zero (suc j) none le = absurd (omega (arith, le))
none_before (x ∷ rows) (suc k) (suc j) none le = by (begins_summary x) none (λ none. none_before rows k j none (omega (arith, le)))
  where
    by : (t : Bool) → (if t then x ∷ take k rows else summary_in (take k rows)) ≡ []
        → (summary_in (take k rows) ≡ [] → summary_in (take j rows) ≡ [])
        → (if t then x ∷ take j rows else summary_in (take j rows)) ≡ []
    by true is others = absurd (cc)
    by false is others = others is

pub left_at : {A : Type 0} (items : List A) (k : ℕ) (item : A) → slice_get items k ≡ Some item → (more : List A) × (drop k items ≡ item ∷ more)
left_at [] k item h = absurd (cc)
left_at (x ∷ items) zero item h = let first : x ≡ item = cc in (items, ap (λ y. y ∷ items) first)
left_at (x ∷ items) (suc k) item h = left_at items k item h

pub taken_at : {A : Type 0} (items : List A) (k j : ℕ) (item : A) → slice_get (take k items) j ≡ Some item → (slice_get items j ≡ Some item) × (j < k)
taken_at items zero j item h = absurd (cc)
taken_at [] (suc k) j item h = absurd (cc)
taken_at (x ∷ items) (suc k) zero item h = (h, omega arith)
taken_at (x ∷ items) (suc k) (suc j) item h = let t = taken_at items k j item h in (t.0, omega (arith, t.1))

pub place_of : {A : Type 0} (items : List A) (item : A) → Contains items item → (k : ℕ) × (slice_get items k ≡ Some item)
place_of items item (k, lt, is) = (k, slice_get-get_or items k item lt ∙ ap Some is)

pub among : {A : Type 0} (items : List A) (k : ℕ) (item : A) → slice_get items k ≡ Some item → Contains items item
among items k item h = (k, slice_get_within items k item h, get_or_from_slice_get items k item item h)

pub taken : {A : Type 0} (items : List A) (k j : ℕ) (item : A) → slice_get items j ≡ Some item → j < k → slice_get (take k items) j ≡ Some item
taken items zero j item h lt = absurd (omega (arith, lt))
taken [] (suc k) j item h lt = absurd (cc)
taken (x ∷ items) (suc k) zero item h lt = h
taken (x ∷ items) (suc k) (suc j) item h lt = taken items k j item h (omega (arith, lt))

pub in_all : (rows : List Record) (fields : Record) → Contains (summary_in rows) fields → Contains rows fields
in_all [] fields h = h
in_all (first ∷ more) fields h = by (begins_summary first) h (in_all more fields)
  where
    behind : Contains more fields → Contains (first ∷ more) fields
    behind (k, lt, is) = (suc k, omega (arith, lt), is)

    by : (t : Bool) → Contains (if t then first ∷ more else summary_in more) fields → (Contains (summary_in more) fields → Contains more fields)
        → Contains (first ∷ more) fields
    by true is others = is
    by false is others = behind (others is)

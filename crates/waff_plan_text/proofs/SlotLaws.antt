-- Laws of the rows by message.
use Rattle.std.proofs.Common.{◌≡◌, ℕ, zero, suc, ◌+◌, ◌<◌, List, [], ◌∷◌, ◌++◌, length, Option, Some, None, Result, Ok, Err, All, refl, arith, replicate}
use Rattle.std.specs.Prelude.{IfSome, get_or}
use Rattle.waff_parse.specs.Walks.{walk, with_front}
use Rattle.waff_parse.proofs.Laws.{walk-step, walk-stop, walk-end, with_front-nil}
use Rattle.waff_plan_text.specs.PlanTexts.{next_message, row_in, rows_in}
use Rattle.waff_plan_text.specs.Rows.{IsWithinLimit, Slots}
use Rattle.waff_plan_text.specs.declared.refusal.PlanTextError.{PlanTextError}
use Rattle.waff_plan_text.specs.declared.refusal.PlanTextError.TheVariants as error
use Rattle.waff_plan_text.specs.declared.row.Row.{Row}

-- the rows of the slots from one on, behind the rows of those before
abbrev pub Rest : List Row → ℕ → Slots → Result (List Row) PlanTextError
Rest rows before left = with_front rows (walk row_in next_message before left)

pub rows-start : (slots left : Slots) (rows : List Row) → rows ≡ [] → left ≡ slots → Rest rows 0 left ≡ rows_in slots
rows-start slots left rows none is = rw (none, is) (with_front-nil (rows_in slots))

pub rows-step : (rows new : List Row) (before : ℕ) (left more : Slots) (slot : Option Row) (row : Row)
    → left ≡ slot ∷ more → slot ≡ Some row → new ≡ rows ++ row ∷ [] → Rest new (before + 1) more ≡ Rest rows before left
rows-step rows new before left more slot row l s n = rw (n, l, s) (walk-step row_in next_message before (Some row) row more rows refl)

pub rows-missing : (rows : List Row) (before : ℕ) (left more : Slots) (slot : Option Row)
    → left ≡ slot ∷ more → slot ≡ None → Rest rows before left ≡ Err (error.Missing (before + 1))
rows-missing rows before left more slot l s = rw (l, s) (walk-stop row_in next_message before None (error.Missing (before + 1)) more rows refl)

pub rows-end : (rows : List Row) (before : ℕ) (left : Slots) → length left ≡ 0 → Rest rows before left ≡ Ok rows
rows-end rows before [] h = walk-end row_in next_message before rows
rows-end rows before (x ∷ xs) h = absurd (omega arith)

-- what holds of each item holds of the first, and of each of the others
pub All-first : {A : Type 0} (P : A → Type 0) (xs more : List A) (x : A) → xs ≡ x ∷ more → All P xs → P x
All-first {A} P xs more x e h = let all : All P (x ∷ more) = rw e at h in all zero x (omega arith)

pub All-others : {A : Type 0} (P : A → Type 0) (xs more : List A) (x : A) → xs ≡ x ∷ more → All P xs → All P more
All-others {A} P xs more x e h = λ k d lt. let all : All P (x ∷ more) = rw e at h in all (suc k) d (omega arith)

abbrev pub no_slot : Option Row
no_slot = None

-- a place without a row is within the limit
pub All-replicate : (n : ℕ) → All (λ (slot : Option Row). IfSome slot IsWithinLimit) (replicate n None)
All-replicate zero = λ k d lt. absurd (omega arith)
All-replicate (suc n) = λ k d lt. by k d lt (All-replicate n)
  where
    by : (k : ℕ) (d : Option Row) → k < length (replicate (suc n) no_slot) → All (λ (slot : Option Row). IfSome slot IsWithinLimit) (replicate n None)
        → IfSome (get_or (replicate (suc n) no_slot) k d) IsWithinLimit
    by zero d lt more = tt
    by (suc k) d lt more = more k d (omega arith)

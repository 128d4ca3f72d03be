-- The shifts of the first messages, one message after another.
use Rattle.std.proofs.Common.{◌≡◌, ◌≢◌, ℕ, ◌+◌, ◌<◌, Bool, false, List, [], ◌∷◌, ◌++◌, length, get_or, eqb, Option, Some, None, All, Contains, arith, refl, sym, ◌∙◌, ap, subst, inl, inr}
use Rattle.std.specs.List.{IsDistinct}
use Rattle.std.specs.List.Sorted.{IsPermutation}
use Rattle.std.proofs.lemmas.Bool.{cases_eq, eq-eqb, ne_eqb, false≢true}
use Rattle.std.proofs.lemmas.Bool.Decides.{nat_tests}
use Rattle.std.proofs.lemmas.List.{get_or_append_left, get_or_default, get_or_push, length_push}
use Rattle.std.proofs.lemmas.List.Elements.{All-push, Contains-append_left, Contains-push}
use Rattle.std.proofs.lemmas.List.Sorted.{All-permutation, Contains-permutation}
use Rattle.std.proofs.lemmas.Map.Keys.{IsDistinct-IsPermutation, IsDistinct-from_apart, apart_from_distinct}
use Rattle.waff_plan.specs.Work.{Work, IsNumber, finish_of}
use Rattle.waff_check.specs.Shifts.{AreShifts, IsShift, IsShiftOf, shift_at, shift_of}
use Rattle.waff_check.specs.declared.shifts.Shift.{Shift}
use Rattle.waff_check.proofs.ShiftLaws.{by-start, by-worker, shift_less}

abbrev same_number : Shift → Shift → Bool
same_number s t = eqb s.number t.number

same_number-sym : (s t : Shift) → same_number s t ≡ same_number t s
same_number-sym s t = grind (arith, nat_tests)

-- numbers that rise stand each once, in whatever order
numbers-once : (old new : List Shift) → IsPermutation old new
    → ((i j : ℕ) → i < j → j < length old → (shift_at old i).number < (shift_at old j).number)
    → (i j : ℕ) → i < j → j < length new → (shift_at new i).number ≢ (shift_at new j).number
numbers-once old new moved rising i j before lt same =
    let distinct : IsDistinct same_number old = IsDistinct-from_apart same_number old (λ p q d less within.
    let one : get_or old p d ≡ shift_at old p = get_or_default old p d (shift_of 0 0 0) (omega arith) in
    let two : get_or old q d ≡ shift_at old q = get_or_default old q d (shift_of 0 0 0) within in
    let up = rising p q less within in
    rw (one, two) (ne_eqb _ _ (omega arith))) in
    let apart = apart_from_distinct same_number new i j (shift_of 0 0 0) (IsDistinct-IsPermutation same_number same_number-sym old new moved distinct) before lt in
    false≢true (sym apart ∙ eq-eqb _ _ same)

module _ (work : Work) (start : ℕ → ℕ) (worker : ℕ → Option ℕ) where
  -- the shifts of the messages below n
  pub record AreShiftsBelow (n : ℕ) (shifts : List Shift) : Type 0 where
    pub each : (m w : ℕ) → IsNumber work m → m < n → worker m ≡ Some w → start m < finish_of work start m → Contains shifts (shift_of w (start m) m)
    pub only : All (IsShift work start worker) shifts
    pub below : All (λ s. s.number < n) shifts
    pub rising : (i j : ℕ) → i < j → j < length shifts → (shift_at shifts i).number < (shift_at shifts j).number

  -- no message
  pub shifts-none : AreShiftsBelow 1 []
  shifts-none = record {
    each = λ m w number lt. let from = number.from in absurd (omega arith);
    only = λ k d lt. absurd (omega arith);
    below = λ k d lt. absurd (omega arith);
    rising = λ i j before lt. absurd (omega arith);
  }

  -- a message without a shift
  pub shifts-skip : (n : ℕ) (shifts : List Shift) → IsShiftOf work start worker n None → AreShiftsBelow n shifts → AreShiftsBelow (n + 1) shifts
  shifts-skip n shifts none so_far = record {
    each = λ m w number lt is runs. elim (cases_eq m n) [
      | inl same ↦ absurd (none w (sym (ap worker same) ∙ is) (subst (λ x. start x < finish_of work start x) same runs))
      | inr other ↦ so_far.each m w number (omega arith) is runs
    ];
    only = so_far.only;
    below = λ k d lt. let b = so_far.below k d lt in omega arith;
    rising = so_far.rising;
  }

  -- a message with one
  pub shifts-push : (n : ℕ) (shift : Shift) (shifts : List Shift) → IsShiftOf work start worker n (Some shift) → AreShiftsBelow n shifts → AreShiftsBelow (n + 1) (shifts ++ shift ∷ [])
  shifts-push n shift shifts (is, number) so_far =
      let more = shifts ++ shift ∷ [] in
      record {
        each = λ m v m_number lt m_is m_runs. elim (cases_eq m n) [
          | inl same ↦ (let this : m ≡ shift.number = same ∙ sym number in
              let one : Some v ≡ Some shift.worker = sym m_is ∙ ap worker this ∙ is.same_worker in
              let v_is : v ≡ shift.worker = cc one in
              let whole : shift_of v (start m) m ≡ shift = rw (v_is, this, is.same_start) refl in
              rw whole (Contains-push shifts shift))
          | inr other ↦ Contains-append_left shifts (shift ∷ []) (shift_of v (start m) m) (so_far.each m v m_number (omega arith) m_is m_runs)
        ];
        only = All-push (IsShift work start worker) shifts shift so_far.only is;
        below = All-push (λ (s : Shift). s.number < n + 1) shifts shift (λ k d lt. let b = so_far.below k d lt in omega arith) (omega (arith, number));
        rising = λ i j before lt.
            let long : length more ≡ length shifts + 1 = length_push shifts shift in
            elim (cases_eq j (length shifts)) [
              | inl last ↦ (let first : shift_at more i ≡ shift_at shifts i = get_or_append_left shifts (shift ∷ []) (shift_of 0 0 0) i (omega arith) in
                  let at : shift_at more j ≡ shift = get_or_push shifts shift (shift_of 0 0 0) j (sym last) in
                  let b : (shift_at shifts i).number < n = so_far.below i (shift_of 0 0 0) (omega arith) in
                  rw (first, at) (omega (arith, number, b)))
              | inr other ↦ (let first : shift_at more i ≡ shift_at shifts i = get_or_append_left shifts (shift ∷ []) (shift_of 0 0 0) i (omega arith) in
                  let at : shift_at more j ≡ shift_at shifts j = get_or_append_left shifts (shift ∷ []) (shift_of 0 0 0) j (omega arith) in
                  rw (first, at) (so_far.rising i j before (omega arith)))
            ];
      }

  -- one more message, with its shift or without
  pub shifts-more : (n : ℕ) (shift : Shift) (found : Option Shift) (shifts : List Shift) → found ≡ Some shift → IsShiftOf work start worker n found → AreShiftsBelow n shifts
      → AreShiftsBelow (n + 1) (shifts ++ shift ∷ [])
  shifts-more n shift found shifts is h = shifts-push n shift shifts (rw is at h)

  pub shifts-same : (n : ℕ) (found : Option Shift) (shifts : List Shift) → ((shift : Shift) → found ≡ Some shift → ⊥) → IsShiftOf work start worker n found → AreShiftsBelow n shifts
      → AreShiftsBelow (n + 1) shifts
  shifts-same n None shifts none h = shifts-skip n shifts h
  shifts-same n (Some shift) shifts none h = absurd (none shift refl)

  -- all messages, sorted
  pub shifts-sorted : (n : ℕ) (old new : List Shift) → work.count < n → AreShiftsBelow n old → IsPermutation old new
      → ((i : ℕ) → i + 1 < length new → shift_less (shift_at new (i + 1)) (shift_at new i) ≡ false) → AreShifts work start worker new
  shifts-sorted n old new all so_far moved sorted = record {
    each = λ m w number is runs. let to = number.to in Contains-permutation old new (shift_of w (start m) m) moved (so_far.each m w number (omega arith) is runs);
    only = All-permutation (IsShift work start worker) old new moved so_far.only;
    once = numbers-once old new moved so_far.rising;
    by_worker = by-worker new sorted;
    by_start = by-start new sorted;
  }

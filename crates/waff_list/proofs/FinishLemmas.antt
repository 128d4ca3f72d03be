-- The messages that run, as messages are placed and finish.
use Rattle.std.proofs.Common.{◌≡◌, ◌≢◌, ℕ, suc, ◌+◌, ◌<◌, ◌≤◌, ◌⊎◌, List, [], ◌∷◌, Contains, arith, refl, ap, inl, inr}
use Rattle.std.specs.List.Sorted.{IsPermutation}
use Rattle.std.proofs.lemmas.Bool.{cases_eq}
use Rattle.std.proofs.lemmas.List.Elements.{All-nil, All-cons, All-contains, All-contains_itself, All-weaker}
use Rattle.std.proofs.lemmas.List.Sorted.{Contains-permutation, All-permutation}
use Rattle.waff_plan.specs.Work.{Work, IsNumber, finish_of}
use Rattle.waff_list.specs.Waiting.{Runs, AreFinishes, HaveFinished}
use Rattle.waff_plan.specs.declared.due.TheConstants.{NEVER}

-- none runs at the beginning
pub finishes_none : (work : Work) (start : ℕ → ℕ) → ((m : ℕ) → IsNumber work m → start m ≡ NEVER) → AreFinishes work start 0 []
finishes_none work start never = record {
  each = λ m number early late. absurd (omega (arith, early, never m number));
  only = All-nil (Runs work start 0);
}

-- a message that is placed runs
pub finishes_place : (work : Work) (start later : ℕ → ℕ) (now x : ℕ) (old new : List (ℕ × ℕ)) → IsNumber work x → now < start x → later x ≡ now → 1 ≤ work.cost x
    → ((i : ℕ) → 1 ≤ i → i ≢ x → later i ≡ start i) → IsPermutation ((now + work.cost x, x) ∷ old) new
    → AreFinishes work start now old → AreFinishes work later now new
finishes_place work start later now x old new number unplaced is cost others more h = record {
  each = λ m m_number early late. Contains-permutation ((now + work.cost x, x) ∷ old) new (later m + work.cost m, m) more
      (elim (cases_eq m x) [
        | inl same ↦ rw (same, is) (0, omega arith, refl)
        | inr other ↦
            let at = others m m_number.from other in
            let there = h.each m m_number (rw at at early) (rw at at late) in
            rw at (suc there.0, omega (arith, there.1), there.2)
      ]);
  only = All-permutation (Runs work later now) ((now + work.cost x, x) ∷ old) new more
      (All-cons (Runs work later now) (now + work.cost x, x) old (number, omega arith, omega arith, omega arith)
      (All-weaker (Runs work start now) (Runs work later now) (λ (r : ℕ × ℕ) runs.
      let other : r.1 ≢ x = λ same. omega (arith, unplaced, runs.1, ap start same) in
      let at = others r.1 runs.0.from other in
      (runs.0, rw at runs.1, runs.2, rw at runs.3))
      old h.only));
}

-- on to the next tick, those that finish by then have left
pub finishes_advance : (work : Work) (start : ℕ → ℕ) (now next : ℕ) (old new : List (ℕ × ℕ)) → now < next → next < NEVER
    → ((m : ℕ) → IsNumber work m → (start m ≤ now) ⊎ (start m ≡ NEVER)) → HaveFinished next old new
    → AreFinishes work start now old → AreFinishes work start next new
finishes_advance work start now next old new later short placed left h = record {
  each = λ m number early late.
      let begun : start m ≤ now = elim (placed m number) [ inl is ↦ is | inr never ↦ absurd (omega arith) ] in
      elim (left.kept (finish_of work start m, m) (h.each m number begun (omega arith))) [ inl done ↦ absurd (omega arith) | inr there ↦ there ];
  only = All-weaker (Contains new) (Runs work start next) (λ (r : ℕ × ℕ) there.
      let was = left.only r there in
      let runs = All-contains (Runs work start now) old r h.only was.0 in
      (runs.0, omega (arith, runs.1, later), was.1, runs.3))
      new (All-contains_itself new);
}

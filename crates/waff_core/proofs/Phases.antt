-- The phases of actors, and what a change of one of them leaves.
use Rattle.std.proofs.Common.{◌≡◌, ◌≢◌, ℕ, zero, suc, ◌+◌, ◌-◌, ◌<◌, ◌≤◌, ◌⊎◌, inl, inr, List, [], ◌∷◌, length, Some, slice_get, set, replicate, refl, ap, sym, ◌∙◌, subst, arith, ⊎_elim}
use Rattle.std.proofs.lemmas.Bool.{cases_eq}
use Rattle.std.proofs.Math.ListN.{length-set}
use Rattle.std.proofs.lemmas.Option.{none-some, same_Some}
use Rattle.waff_core.specs.Machine.{phase_of, with_phase}
use Rattle.waff_core.specs.declared.actors.Phase.{Phase}
use Rattle.waff_core.specs.declared.actors.Phase.TheVariants.{Free, Drawn, Running, Ended}

get_set_same : (phases : List Phase) (k : ℕ) (old phase : Phase) → slice_get phases k ≡ Some old
    → slice_get (set phases k phase) k ≡ Some phase
get_set_same [] k old phase is = absurd (none-some old is)
get_set_same (first ∷ phases) zero old phase is = refl
get_set_same (first ∷ phases) (suc k) old phase is = get_set_same phases k old phase is

get_set_other : (phases : List Phase) (k j : ℕ) (phase : Phase) → j ≢ k → slice_get (set phases k phase) j ≡ slice_get phases j
get_set_other [] k j phase other = refl
get_set_other (first ∷ phases) zero zero phase other = absurd (other refl)
get_set_other (first ∷ phases) zero (suc j) phase other = refl
get_set_other (first ∷ phases) (suc k) zero phase other = refl
get_set_other (first ∷ phases) (suc k) (suc j) phase other = get_set_other phases k j phase (λ same. other (ap suc same))

-- the actor whose phase changes has the new one
pub phase_same : (phases : List Phase) (x : ℕ) (old phase : Phase) → phase_of phases x ≡ Some old
    → phase_of (with_phase phases x phase) x ≡ Some phase
phase_same phases zero old phase is = absurd (none-some old is)
phase_same phases (suc x) old phase is =
    let at : suc x - 1 ≡ x = omega arith in
    rw at (get_set_same phases x old phase is)

-- the others keep theirs
pub phase_other : (phases : List Phase) (x y : ℕ) (old phase : Phase) → phase_of phases x ≡ Some old → y ≢ x
    → phase_of (with_phase phases x phase) y ≡ phase_of phases y
phase_other phases zero y old phase is other = absurd (none-some old is)
phase_other phases (suc x) zero old phase is other = refl
phase_other phases (suc x) (suc y) old phase is other =
    let at : suc x - 1 ≡ x = omega arith in
    rw at (get_set_other phases x y phase (λ same. other (ap suc same)))

-- at the opening every actor is free
pub phase_opening : (seats x : ℕ) (phase : Phase) → phase_of (replicate seats Free) x ≡ Some phase → phase ≡ Free
phase_opening seats zero phase is = absurd (none-some phase is)
phase_opening seats (suc x) phase is = at seats x is
  where
    at : (n k : ℕ) → slice_get (replicate n Free) k ≡ Some phase → phase ≡ Free
    at zero k h = absurd (none-some phase h)
    at (suc n) zero h = same_Some phase Free (sym h)
    at (suc n) (suc k) h = at n k h

-- and there is each of them
pub phase_free : (seats x : ℕ) → 1 ≤ x → x ≤ seats → phase_of (replicate seats Free) x ≡ Some Free
phase_free seats zero from to = absurd (omega arith)
phase_free seats (suc x) from to = at seats x (omega arith)
  where
    at : (n k : ℕ) → k < n → slice_get (replicate n Free) k ≡ Some Free
    at zero k short = absurd (omega arith)
    at (suc n) zero short = refl
    at (suc n) (suc k) short = at n k (omega arith)

-- an actor that has a phase after a change is the one that changed, or another that had it before
pub phase_cases : (phases : List Phase) (x y : ℕ) (old new phase : Phase) → phase_of phases x ≡ Some old
    → phase_of (with_phase phases x new) y ≡ Some phase
    → ((y ≡ x) × (new ≡ phase)) ⊎ ((y ≢ x) × (phase_of phases y ≡ Some phase))
phase_cases phases x y old new phase was is =
    ⊎_elim {C = ((y ≡ x) × (new ≡ phase)) ⊎ ((y ≢ x) × (phase_of phases y ≡ Some phase))}
    (λ (same : y ≡ x).
    let there : phase_of (with_phase phases x new) x ≡ Some phase = subst (λ z. phase_of (with_phase phases x new) z ≡ Some phase) same is in
    inl (same, same_Some new phase (sym (phase_same phases x old new was) ∙ there)))
    (λ (other : y ≢ x). inr (other, sym (phase_other phases x y old new was other) ∙ is))
    (cases_eq y x)

-- an actor has a message when it holds or runs it
abbrev pub Has : List Phase → ℕ → ℕ → Type 0
Has phases x m = (phase_of phases x ≡ Some (Drawn m)) ⊎ (phase_of phases x ≡ Some (Running m))

-- an actor that has a message after a change is the one that changed, or another that had it before
pub has_cases : (phases : List Phase) (x y : ℕ) (old new : Phase) (m : ℕ) → phase_of phases x ≡ Some old
    → Has (with_phase phases x new) y m
    → ((y ≡ x) × ((new ≡ Drawn m) ⊎ (new ≡ Running m))) ⊎ ((y ≢ x) × Has phases y m)
has_cases phases x y old new m was (inl is) =
    ⊎_elim {C = ((y ≡ x) × ((new ≡ Drawn m) ⊎ (new ≡ Running m))) ⊎ ((y ≢ x) × Has phases y m)}
    (λ (h : (y ≡ x) × (new ≡ Drawn m)). inl (h.0, inl h.1))
    (λ (h : (y ≢ x) × (phase_of phases y ≡ Some (Drawn m))). inr (h.0, inl h.1))
    (phase_cases phases x y old new (Drawn m) was is)
has_cases phases x y old new m was (inr is) =
    ⊎_elim {C = ((y ≡ x) × ((new ≡ Drawn m) ⊎ (new ≡ Running m))) ⊎ ((y ≢ x) × Has phases y m)}
    (λ (h : (y ≡ x) × (new ≡ Running m)). inl (h.0, inr h.1))
    (λ (h : (y ≢ x) × (phase_of phases y ≡ Some (Running m))). inr (h.0, inr h.1))
    (phase_cases phases x y old new (Running m) was is)

-- the other actors have what they had
pub has_still : (phases : List Phase) (x y : ℕ) (old new : Phase) (m : ℕ) → phase_of phases x ≡ Some old → y ≢ x → Has phases y m
    → Has (with_phase phases x new) y m
has_still phases x y old new m was other (inl is) = inl (phase_other phases x y old new was other ∙ is)
has_still phases x y old new m was other (inr is) = inr (phase_other phases x y old new was other ∙ is)

-- how many actors have ended
abbrev pub ended : List Phase → ℕ
ended [] = 0
ended (Ended ∷ phases) = suc (ended phases)
ended (phase ∷ phases) = ended phases

-- no more have ended than there are
pub ended_few : (phases : List Phase) → ended phases ≤ length phases
ended_few [] = omega arith
ended_few (Ended ∷ phases) = omega (arith, ended_few phases)
ended_few (Free ∷ phases) = omega (arith, ended_few phases)
ended_few (Drawn m ∷ phases) = omega (arith, ended_few phases)
ended_few (Running m ∷ phases) = omega (arith, ended_few phases)

ended_set : (phases : List Phase) (k : ℕ) (old new : Phase) → slice_get phases k ≡ Some old → old ≢ Ended
    → ended (set phases k new) ≡ ended phases + ended (new ∷ [])
ended_set [] k old new is other = absurd (none-some old is)
ended_set (Ended ∷ phases) zero old new is other = absurd (other (same_Some old Ended (sym is)))
ended_set (Free ∷ phases) zero old Ended is other = omega arith
ended_set (Free ∷ phases) zero old Free is other = omega arith
ended_set (Free ∷ phases) zero old (Drawn m) is other = omega arith
ended_set (Free ∷ phases) zero old (Running m) is other = omega arith
ended_set (Drawn n ∷ phases) zero old Ended is other = omega arith
ended_set (Drawn n ∷ phases) zero old Free is other = omega arith
ended_set (Drawn n ∷ phases) zero old (Drawn m) is other = omega arith
ended_set (Drawn n ∷ phases) zero old (Running m) is other = omega arith
ended_set (Running n ∷ phases) zero old Ended is other = omega arith
ended_set (Running n ∷ phases) zero old Free is other = omega arith
ended_set (Running n ∷ phases) zero old (Drawn m) is other = omega arith
ended_set (Running n ∷ phases) zero old (Running m) is other = omega arith
ended_set (Ended ∷ phases) (suc k) old new is other = omega (arith, ended_set phases k old new is other)
ended_set (Free ∷ phases) (suc k) old new is other = ended_set phases k old new is other
ended_set (Drawn m ∷ phases) (suc k) old new is other = ended_set phases k old new is other
ended_set (Running m ∷ phases) (suc k) old new is other = ended_set phases k old new is other

-- one more has ended where an actor that had not gets that phase, and as many where it gets another
pub ended_after : (phases : List Phase) (x : ℕ) (old new : Phase) → phase_of phases x ≡ Some old → old ≢ Ended
    → ended (with_phase phases x new) ≡ ended phases + ended (new ∷ [])
ended_after phases zero old new is other = absurd (none-some old is)
ended_after phases (suc x) old new is other =
    let at : suc x - 1 ≡ x = omega arith in
    rw at (ended_set phases x old new is other)

-- there are as many actors as before
pub phases_count : (phases : List Phase) (x : ℕ) (phase : Phase) → length (with_phase phases x phase) ≡ length phases
phases_count phases x phase = length-set phases (x - 1) phase

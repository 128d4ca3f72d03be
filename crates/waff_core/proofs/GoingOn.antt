-- No state that is reached is stuck.
use Rattle.std.proofs.Common.{◌≡◌, ◌≢◌, ℕ, zero, suc, ◌+◌, ◌<◌, ◌≤◌, ◌⊎◌, inl, inr, true, false, List, [], ◌∷◌, length, Option, Some, None, slice_get, get_or, refl, sym, ◌∙◌, subst, arith, ⊎_elim}
use Rattle.std.proofs.lemmas.Bool.{cases_Bool, cases_eq, cases_lt, true≢false}
use Rattle.std.proofs.lemmas.Option.{none-some, same_Some, slice_get-get_or, slice_get_within}
use Rattle.waff_core.specs.Job.{JobValue, IsJob, StandsAt}
use Rattle.waff_core.specs.Machine.{Core, Runs, Steps, opening, phase_of, phase_drawn, drawn_by, begun_by, ended_by}
use Rattle.waff_core.specs.Laws.{NeverStuck, AreAllDone}
use Rattle.waff_core.specs.declared.actors.Event.{Event}
use Rattle.waff_core.specs.declared.actors.Event.TheVariants.{Draw, Begin, End}
use Rattle.waff_core.specs.declared.actors.Phase.{Phase}
use Rattle.waff_core.specs.declared.actors.Phase.TheVariants.{Free, Drawn, Running, Ended}
use Rattle.waff_core.proofs.OneActor.{AreDoneBefore, next_is_clear, all_are_done}
use Rattle.waff_core.proofs.Phases.{Has, phase_cases, phase_opening}
use Rattle.waff_core.proofs.Sound.{Sound, sound_reached, seats_stay}

-- where an actor has ended, the order is drawn to its end
abbrev EndsPast : JobValue → Core → Type 0
EndsPast job s = (x : ℕ) → phase_of s.phases x ≡ Some Ended → length job.order ≤ s.drawn

past_found : (job : JobValue) (place : ℕ) (found : Option ℕ) → slice_get job.order place ≡ found → phase_drawn found ≡ Ended
    → length job.order ≤ place
past_found job place (Some m) at same = absurd (cc)
past_found job place None at same =
    ⊎_elim {C = length job.order ≤ place}
    (λ (within : place < length job.order).
    absurd (none-some (get_or job.order place 0) (sym at ∙ slice_get-get_or job.order place 0 within)))
    (λ (past : length job.order ≤ place). past)
    (cases_lt place (length job.order))

past_step : (job : JobValue) (s : Core) (event : Event) (t : Core) → Steps job s event t → EndsPast job s → EndsPast job t
past_step job s (Draw x) t step past =
    subst (λ u. EndsPast job u) (sym step.1)
    (λ y ended. ⊎_elim {C = length job.order ≤ s.drawn + 1}
    (λ (new : (y ≡ x) × (phase_drawn (slice_get job.order s.drawn) ≡ Ended)).
    let here : length job.order ≤ s.drawn = past_found job s.drawn (slice_get job.order s.drawn) refl new.1 in
    omega arith)
    (λ (old : (y ≢ x) × (phase_of s.phases y ≡ Some Ended)).
    let here : length job.order ≤ s.drawn = past y old.1 in omega arith)
    (phase_cases s.phases x y Free (phase_drawn (slice_get job.order s.drawn)) Ended step.0 ended))
past_step job s (Begin x) t step past =
    subst (λ u. EndsPast job u) (sym step.3)
    (λ y ended. ⊎_elim {C = length job.order ≤ s.drawn}
    (λ (new : (y ≡ x) × (Running step.0 ≡ Ended)). let same = new.1 in absurd (cc))
    (λ (old : (y ≢ x) × (phase_of s.phases y ≡ Some Ended)). past y old.1)
    (phase_cases s.phases x y (Drawn step.0) (Running step.0) Ended step.1 ended))
past_step job s (End x) t step past =
    subst (λ u. EndsPast job u) (sym step.2)
    (λ y ended. ⊎_elim {C = length job.order ≤ s.drawn}
    (λ (new : (y ≡ x) × (Free ≡ Ended)). let same = new.1 in absurd (cc))
    (λ (old : (y ≢ x) × (phase_of s.phases y ≡ Some Ended)). past y old.1)
    (phase_cases s.phases x y (Running step.0) Free Ended step.1 ended))

past_runs : (job : JobValue) (s : Core) (events : List Event) (t : Core) → Runs job s events t → EndsPast job s → EndsPast job t
past_runs job s [] t same past = subst (λ u. EndsPast job u) same past
past_runs job s (event ∷ events) t (u, step, rest) past = past_runs job u events t rest (past_step job s event u step past)

past_opening : (job : JobValue) (seats : ℕ) → EndsPast job (opening seats)
past_opening job seats x ended = let same : Ended ≡ Free = phase_opening seats x Ended ended in absurd (cc)

module _ (job : JobValue) (is : IsJob job) (s : Core) where
  -- the first message of these places of the order that is not done
  IsUndone : ℕ → Type 0
  IsUndone places =
      (place : ℕ) × (m : ℕ) × (place < places) × StandsAt job.order place m × (s.done m ≡ false) × AreDoneBefore job s place

  -- one place more
  undone_more : (n : ℕ) → AreDoneBefore job s n → (found : Option ℕ) → slice_get job.order n ≡ found
      → ((m : ℕ) → found ≡ Some m → (s.done m ≡ true) ⊎ (s.done m ≡ false))
      → AreDoneBefore job s (suc n) ⊎ IsUndone (suc n)
  unfolding IsUndone
  undone_more n done None at decide =
      inl (λ place m before stands. ⊎_elim {C = s.done m ≡ true}
      (λ (same : place ≡ n). absurd (none-some m (sym at ∙ subst (λ k. slice_get job.order k ≡ Some m) same stands)))
      (λ (other : place ≢ n). done place m (omega arith) stands)
      (cases_eq place n))
  undone_more n done (Some m) at decide =
      ⊎_elim {C = AreDoneBefore job s (suc n) ⊎ IsUndone (suc n)}
      (λ (is_done : s.done m ≡ true).
      inl (λ place k before stands. ⊎_elim {C = s.done k ≡ true}
      (λ (same : place ≡ n).
      subst (λ i. s.done i ≡ true) (same_Some m k (sym at ∙ subst (λ p. slice_get job.order p ≡ Some k) same stands)) is_done)
      (λ (other : place ≢ n). done place k (omega arith) stands)
      (cases_eq place n)))
      (λ (undone : s.done m ≡ false). inr (n, m, omega arith, at, undone, done))
      (decide m refl)

  first_undone : (n : ℕ) → AreDoneBefore job s n ⊎ IsUndone n
  unfolding IsUndone
  first_undone zero = inl (λ place m before stands. absurd (omega arith))
  first_undone (suc n) =
      ⊎_elim {C = AreDoneBefore job s (suc n) ⊎ IsUndone (suc n)}
      (λ (done : AreDoneBefore job s n).
      undone_more n done (slice_get job.order n) refl (λ m at. cases_Bool (s.done m)))
      (λ (first : IsUndone n). inr (first.0, first.1, omega (arith, first.2), first.3, first.4, first.5))
      (first_undone n)

  GoesOn : Type 0
  GoesOn = (event : Event) × (t : Core) × Steps job s event t

  module _ (sound : Sound job s) (past : EndsPast job s) where
    -- a message that an actor has, and before which all are done, begins or ends
    has_goes : (x place m : ℕ) → StandsAt job.order place m → AreDoneBefore job s place → Has s.phases x m → GoesOn
    unfolding GoesOn
    has_goes x place m at done (inl holds) = (Begin x, begun_by s x m, (m, holds, next_is_clear job is s place m at done, refl))
    has_goes x place m at done (inr runs) = (End x, ended_by job s x m, (m, runs, refl))

    -- where all that was drawn is done, an actor draws
    actor_goes : (x place m : ℕ) → s.drawn ≤ place → StandsAt job.order place m → AreDoneBefore job s place
        → (phase : Phase) → phase_of s.phases x ≡ Some phase → GoesOn
    unfolding GoesOn
    actor_goes x place m after at done Free is_free = (Draw x, drawn_by job s x, (is_free, refl))
    actor_goes x place m after at done (Running n) runs = (End x, ended_by job s x n, (n, runs, refl))
    actor_goes x place m after at done (Drawn n) holds =
        let was = sound.held x n (inl holds) in
        absurd (true≢false (sym (done was.0 n (omega (arith, was.1, after)) was.2) ∙ sound.undone x n (inl holds)))
    actor_goes x place m after at done Ended ended =
        let over : length job.order ≤ s.drawn = past x ended in
        let within : place < length job.order = slice_get_within job.order place m at in
        absurd (omega arith)

    goes : (x : ℕ) (phase : Phase) → phase_of s.phases x ≡ Some phase → IsUndone (length job.order) → GoesOn
    unfolding IsUndone
    goes x phase is_at (place, m, within, at, undone, done) =
        ⊎_elim {C = GoesOn}
        (λ (before : place < s.drawn). ⊎_elim {C = GoesOn}
        (λ (is_done : s.done m ≡ true). absurd (true≢false (sym is_done ∙ undone)))
        (λ (one : (y : ℕ) × Has s.phases y m). has_goes one.0 place m at done one.1)
        (sound.kept place m before at))
        (λ (after : s.drawn ≤ place). actor_goes x place m after at done phase is_at)
        (cases_lt place s.drawn)

pub never_stuck : (job : JobValue) → IsJob job → NeverStuck job
unfolding GoesOn
never_stuck job is seats s some_seat (events, runs) =
    let count : length s.phases ≡ seats = seats_stay job seats events s runs in
    ⊎_elim {C = AreAllDone job s ⊎ ((event : Event) × (t : Core) × Steps job s event t)}
    (λ (done : AreDoneBefore job s (length job.order)). inl (all_are_done job is s done))
    (λ (undone : IsUndone job is s (length job.order)).
    inr (goes job is s (sound_reached job is seats events s runs) (past_runs job (opening seats) events s runs (past_opening job seats))
    1 (get_or s.phases 0 Free) (slice_get-get_or s.phases 0 Free (omega arith)) undone))
    (first_undone job is s (length job.order))

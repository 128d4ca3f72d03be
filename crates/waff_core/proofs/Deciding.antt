-- Every list of events runs or fails: at each event the machine goes on, or names why it does not.
use Rattle.std.proofs.Common.{◌≡◌, ◌≢◌, ℕ, zero, suc, ◌+◌, ◌<◌, ◌≤◌, ◌⊎◌, inl, inr, true, false, List, [], ◌∷◌, length, Option, Some, None, take, slice_get, refl, sym, ◌∙◌, subst, arith, ⊎_elim}
use Rattle.std.proofs.lemmas.Bool.{cases_eq, cases_lt, cases_Bool, true≢false}
use Rattle.waff_model.specs.Tree.{AtOrAbove, Excludes}
use Rattle.waff_assign.specs.Held.{ExcludeEachOther}
use Rattle.waff_assign.specs.Order.{IsOrdered, held_of}
use Rattle.waff_assign.proofs.Holding.{exclude_unlocked, uses_none}
use Rattle.waff_core.specs.Job.{JobValue, IsIn, IsJob}
use Rattle.waff_core.specs.Machine.{Core, Steps, Runs, IsClear, opening, phase_of, drawn_by, begun_by, ended_by}
use Rattle.waff_core.specs.Refused.{IsBusy, HasNothing, IsLeastUndone, IsRefusedEvent, FailsFirst, actor_of}
use Rattle.waff_core.specs.Laws.{RunsOrFails}
use Rattle.waff_core.specs.declared.actors.Event.{Event}
use Rattle.waff_core.specs.declared.actors.Event.TheVariants.{Draw, Begin, End}
use Rattle.waff_core.specs.declared.actors.Phase.{Phase}
use Rattle.waff_core.specs.declared.actors.Phase.TheVariants.{Free, Drawn, Running, Ended}
use Rattle.waff_core.specs.declared.refusal.CoreError.{CoreError}
use Rattle.waff_core.specs.declared.refusal.CoreError.TheVariants.{Busy, Nothing, NotYet}
use Rattle.waff_core.proofs.Settling.{affinity_is, decide_above}

-- events from a state fail at one, which stands at this place after those before
record FailsFrom (job : JobValue) (s : Core) (at : ℕ) (events : List Event) : Type 0 where
  error : CoreError
  before : ℕ
  state : Core
  runs : Runs job s (take before events) state
  event : Event
  is : slice_get events before ≡ Some event
  refused : IsRefusedEvent job state (at + before + 1) event error

module _ (job : JobValue) (is : IsJob job) where
  decide_excludes : (a b : ℕ) → Excludes job.layout.tree a b ⊎ ¬ Excludes job.layout.tree a b
  decide_excludes a b =
      ⊎_elim {C = Excludes job.layout.tree a b ⊎ ¬ Excludes job.layout.tree a b}
      (λ (above : AtOrAbove job.layout.tree a b). inl (inl above))
      (λ (apart : ¬ AtOrAbove job.layout.tree a b).
      ⊎_elim {C = Excludes job.layout.tree a b ⊎ ¬ Excludes job.layout.tree a b}
      (λ (below : AtOrAbove job.layout.tree b a). inl (inr below))
      (λ (also : ¬ AtOrAbove job.layout.tree b a). inr (λ excludes. ⊎_elim {C = ⊥} apart also excludes))
      (decide_above job.layout.tree is.layout.tree.rooted b a))
      (decide_above job.layout.tree is.layout.tree.rooted a b)

  -- two messages exclude each other, or do not
  decide_exclude : (i m : ℕ) → IsIn job i → IsIn job m
      → ExcludeEachOther job.layout.tree (held_of job.assigned i) (held_of job.assigned m)
      ⊎ ¬ ExcludeEachOther job.layout.tree (held_of job.assigned i) (held_of job.assigned m)
  decide_exclude i m i_within m_within =
      let one = affinity_is job is i i_within in
      let other = affinity_is job is m m_within in
      let same : length job.assigned ≡ length job.ops = is.count in
      let to : i ≤ length job.ops = i_within.to in
      let both = exclude_unlocked job.layout.tree (held_of job.assigned i) (held_of job.assigned m) one.0 other.0 is.layout.tree one.2 other.2 one.1 other.1
      (uses_none job.assigned i is.unlocked i_within.from (omega arith)) in
      ⊎_elim {C = ExcludeEachOther job.layout.tree (held_of job.assigned i) (held_of job.assigned m)
      ⊎ ¬ ExcludeEachOther job.layout.tree (held_of job.assigned i) (held_of job.assigned m)}
      (λ (excludes : Excludes job.layout.tree one.0 other.0). inl (both.1 excludes))
      (λ (apart : ¬ Excludes job.layout.tree one.0 other.0). inr (λ exclude. apart (both.0 exclude)))
      (decide_excludes one.0 other.0)

  -- of an earlier message: it does not exclude message m, or it is done, or it is not done
  judge : (s : Core) (m i : ℕ) → (IsOrdered job.layout.tree job.assigned i m → s.done i ≡ true)
      ⊎ (IsOrdered job.layout.tree job.assigned i m × (s.done i ≡ false))
  judge s m i =
      ⊎_elim {C = Verdict}
      (λ (done : s.done i ≡ true). inl (λ ordered. done))
      (λ (undone : s.done i ≡ false).
      ⊎_elim {C = Verdict}
      (λ (none : i < 1). inl (λ ordered. let from : 1 ≤ i = ordered.from in absurd (omega arith)))
      (λ (from : 1 ≤ i).
      ⊎_elim {C = Verdict}
      (λ (earlier : i < m).
      ⊎_elim {C = Verdict}
      (λ (past : length job.assigned < m). inl (λ ordered. let to : m ≤ length job.assigned = ordered.to in absurd (omega arith)))
      (λ (to : m ≤ length job.assigned).
      let same : length job.assigned ≡ length job.ops = is.count in
      ⊎_elim {C = Verdict}
      (λ (excludes : ExcludeEachOther job.layout.tree (held_of job.assigned i) (held_of job.assigned m)).
      inr (record { from = from; earlier = earlier; to = to; excludes = excludes }, undone))
      (λ (apart : ¬ ExcludeEachOther job.layout.tree (held_of job.assigned i) (held_of job.assigned m)). inl (λ ordered. absurd (apart ordered.excludes)))
      (decide_exclude i m (record { from = from; to = omega arith }) (record { from = omega arith; to = omega arith })))
      (cases_lt (length job.assigned) m))
      (λ (later : m ≤ i). inl (λ ordered. let before : i < m = ordered.earlier in absurd (omega arith)))
      (cases_lt i m))
      (cases_lt i 1))
      (cases_Bool (s.done i))
    where
      Verdict : Type 0
      Verdict = (IsOrdered job.layout.tree job.assigned i m → s.done i ≡ true)
          ⊎ (IsOrdered job.layout.tree job.assigned i m × (s.done i ≡ false))

  -- below a number all earlier messages that exclude message m are done, or there is a least that is not
  least_below : (s : Core) (m n : ℕ) → ((i : ℕ) → i < n → IsOrdered job.layout.tree job.assigned i m → s.done i ≡ true)
      ⊎ ((i : ℕ) × IsLeastUndone job s m i)
  least_below s m zero = inl (λ i short ordered. absurd (omega arith))
  least_below s m (suc n) =
      ⊎_elim {C = ((i : ℕ) → i < suc n → IsOrdered job.layout.tree job.assigned i m → s.done i ≡ true) ⊎ ((i : ℕ) × IsLeastUndone job s m i)}
      (λ (below : (i : ℕ) → i < n → IsOrdered job.layout.tree job.assigned i m → s.done i ≡ true).
      ⊎_elim {C = ((i : ℕ) → i < suc n → IsOrdered job.layout.tree job.assigned i m → s.done i ≡ true) ⊎ ((i : ℕ) × IsLeastUndone job s m i)}
      (λ (fine : IsOrdered job.layout.tree job.assigned n m → s.done n ≡ true).
      inl
      (λ i short ordered.
      ⊎_elim {C = s.done i ≡ true}
      (λ (last : i ≡ n). subst (λ k. s.done k ≡ true) (sym last) (fine (subst (λ k. IsOrdered job.layout.tree job.assigned k m) last ordered)))
      (λ (other : i ≢ n). below i (omega arith) ordered)
      (cases_eq i n)))
      (λ (bad : IsOrdered job.layout.tree job.assigned n m × (s.done n ≡ false)).
      inr (
        n,
        record {
          ordered = bad.0;
          undone = bad.1;
          least = λ other ordered undone.
              ⊎_elim {C = n ≤ other}
              (λ (short : other < n). absurd (true≢false (sym (below other short ordered) ∙ undone)))
              (λ (late : n ≤ other). late)
              (cases_lt other n);
        },
      ))
      (judge s m n))
      (λ (found : (i : ℕ) × IsLeastUndone job s m i). inr found)
      (least_below s m n)

  decide_clear : (s : Core) (m : ℕ) → IsClear job s m ⊎ ((i : ℕ) × IsLeastUndone job s m i)
  decide_clear s m =
      ⊎_elim {C = IsClear job s m ⊎ ((i : ℕ) × IsLeastUndone job s m i)}
      (λ (below : (i : ℕ) → i < m → IsOrdered job.layout.tree job.assigned i m → s.done i ≡ true). inl (λ i ordered. below i ordered.earlier ordered))
      (λ (found : (i : ℕ) × IsLeastUndone job s m i). inr found)
      (least_below s m m)

  -- an event leads on, or is refused
  step_or_refused : (s : Core) (place : ℕ) (event : Event) (phase : Option Phase) → phase_of s.phases (actor_of event) ≡ phase
      → ((t : Core) × Steps job s event t) ⊎ ((error : CoreError) × IsRefusedEvent job s place event error)
  step_or_refused s place (Draw x) None at = inr (Nothing place, (refl, subst (λ o. HasNothing (Draw x) o) (sym at) tt))
  step_or_refused s place (Draw x) (Some Free) at = inl (drawn_by job s x, (at, refl))
  step_or_refused s place (Draw x) (Some (Drawn m)) at = inr (Busy place, (refl, subst (λ o. IsBusy (Draw x) o) (sym at) tt))
  step_or_refused s place (Draw x) (Some (Running m)) at = inr (Busy place, (refl, subst (λ o. IsBusy (Draw x) o) (sym at) tt))
  step_or_refused s place (Draw x) (Some Ended) at = inr (Nothing place, (refl, subst (λ o. HasNothing (Draw x) o) (sym at) tt))
  step_or_refused s place (Begin x) None at = inr (Nothing place, (refl, subst (λ o. HasNothing (Begin x) o) (sym at) tt))
  step_or_refused s place (Begin x) (Some Free) at = inr (Nothing place, (refl, subst (λ o. HasNothing (Begin x) o) (sym at) tt))
  step_or_refused s place (Begin x) (Some (Drawn m)) at =
      ⊎_elim {C = ((t : Core) × Steps job s (Begin x) t) ⊎ ((error : CoreError) × IsRefusedEvent job s place (Begin x) error)}
      (λ (clear : IsClear job s m). inl (begun_by s x m, (m, at, clear, refl)))
      (λ (found : (i : ℕ) × IsLeastUndone job s m i). inr (NotYet place found.0, (refl, (m, at, found.1))))
      (decide_clear s m)
  step_or_refused s place (Begin x) (Some (Running m)) at = inr (Nothing place, (refl, subst (λ o. HasNothing (Begin x) o) (sym at) tt))
  step_or_refused s place (Begin x) (Some Ended) at = inr (Nothing place, (refl, subst (λ o. HasNothing (Begin x) o) (sym at) tt))
  step_or_refused s place (End x) None at = inr (Nothing place, (refl, subst (λ o. HasNothing (End x) o) (sym at) tt))
  step_or_refused s place (End x) (Some Free) at = inr (Nothing place, (refl, subst (λ o. HasNothing (End x) o) (sym at) tt))
  step_or_refused s place (End x) (Some (Drawn m)) at = inr (Nothing place, (refl, subst (λ o. HasNothing (End x) o) (sym at) tt))
  step_or_refused s place (End x) (Some (Running m)) at = inl (ended_by job s x m, (m, at, refl))
  step_or_refused s place (End x) (Some Ended) at = inr (Nothing place, (refl, subst (λ o. HasNothing (End x) o) (sym at) tt))

  runs_or_fails_from : (s : Core) (at : ℕ) (events : List Event) → ((t : Core) × Runs job s events t) ⊎ FailsFrom job s at events
  runs_or_fails_from s at [] = inl (s, refl)
  runs_or_fails_from s at (event ∷ events) =
      ⊎_elim {C = ((t : Core) × Runs job s (event ∷ events) t) ⊎ FailsFrom job s at (event ∷ events)}
      (λ (step : (u : Core) × Steps job s event u).
      ⊎_elim {C = ((t : Core) × Runs job s (event ∷ events) t) ⊎ FailsFrom job s at (event ∷ events)}
      (λ (rest : (t : Core) × Runs job step.0 events t). inl (rest.0, (step.0, step.1, rest.1)))
      (λ (fails : FailsFrom job step.0 (at + 1) events).
      let shifted : at + 1 + fails.before + 1 ≡ at + suc fails.before + 1 = omega arith in
      inr
      (record {
        error = fails.error;
        before = suc fails.before;
        state = fails.state;
        runs = (step.0, step.1, fails.runs);
        event = fails.event;
        is = fails.is;
        refused = subst (λ place. IsRefusedEvent job fails.state place fails.event fails.error) shifted fails.refused;
      }))
      (runs_or_fails_from step.0 (at + 1) events))
      (λ (refused : (error : CoreError) × IsRefusedEvent job s (at + 1) event error).
      let here : at + 1 ≡ at + 0 + 1 = omega arith in
      inr
      (record {
        error = refused.0;
        before = 0;
        state = s;
        runs = refl;
        event = event;
        is = refl;
        refused = subst (λ place. IsRefusedEvent job s place event refused.0) here refused.1;
      }))
      (step_or_refused s (at + 1) event (phase_of s.phases (actor_of event)) refl)

  pub runs_or_fails : RunsOrFails job
  runs_or_fails seats events =
      ⊎_elim {C = ((s : Core) × Runs job (opening seats) events s) ⊎ ((error : CoreError) × FailsFirst job seats events error)}
      (λ (runs : (s : Core) × Runs job (opening seats) events s). inl runs)
      (λ (fails : FailsFrom job (opening seats) 0 events).
      let first : 0 + fails.before + 1 ≡ fails.before + 1 = omega arith in
      inr (
        fails.error,
        record {
          before = fails.before;
          state = fails.state;
          runs = fails.runs;
          event = fails.event;
          is = fails.is;
          refused = subst (λ place. IsRefusedEvent job fails.state place fails.event fails.error) first fails.refused;
        },
      ))
      (runs_or_fails_from (opening seats) 0 events)

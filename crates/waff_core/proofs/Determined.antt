-- The machine is deterministic: events lead to one state, or have one first fault.
use Rattle.std.proofs.Common.{◌≡◌, ℕ, zero, suc, ◌<◌, ◌≤◌, List, [], ◌∷◌, length, Option, Some, None, take, slice_get, ◌+◌, ◌≢◌, refl, ap, ap₂, sym, ◌∙◌, subst, arith, ⊎_elim}
use Rattle.std.proofs.lemmas.Bool.{cases_eq, cases_order, true≢false}
use Rattle.std.proofs.Math.Seq.{take-length}
use Rattle.std.proofs.lemmas.Option.{none-some, same_Some, slice_get_within}
use Rattle.waff_core.specs.Job.{JobValue}
use Rattle.waff_core.specs.Machine.{Core, Steps, Runs, opening, phase_of, begun_by, ended_by}
use Rattle.waff_core.specs.Refused.{IsBusy, HasNothing, IsNotYet, IsLeastUndone, IsRefusedEvent, FailsFirst, actor_of}
use Rattle.waff_core.specs.Settled.{IsLast}
use Rattle.waff_core.specs.Laws.{RunsOnce, FailsOnce, NeverBoth, StaysAccepted, LastIsOne}
use Rattle.waff_core.specs.declared.actors.Event.{Event}
use Rattle.waff_core.specs.declared.actors.Event.TheVariants.{Draw, Begin, End}
use Rattle.waff_core.specs.declared.actors.Phase.{Phase}
use Rattle.waff_core.specs.declared.actors.Phase.TheVariants.{Free, Drawn, Running, Ended}
use Rattle.waff_core.specs.declared.refusal.CoreError.{CoreError}
use Rattle.waff_core.specs.declared.refusal.CoreError.TheVariants.{Busy, Nothing, NotYet, Memory}

-- an actor holds no more than one message, and runs no more than one
pub same_drawn : (phase : Option Phase) (m n : ℕ) → phase ≡ Some (Drawn m) → phase ≡ Some (Drawn n) → m ≡ n
same_drawn phase m n one other = cc

pub same_running : (phase : Option Phase) (m n : ℕ) → phase ≡ Some (Running m) → phase ≡ Some (Running n) → m ≡ n
same_running phase m n one other = cc

-- an event leads to one state
pub step_once : (job : JobValue) (s : Core) (event : Event) (t u : Core) → Steps job s event t → Steps job s event u → t ≡ u
step_once job s (Draw x) t u one other = one.1 ∙ sym other.1
step_once job s (Begin x) t u one other =
    one.3 ∙ ap (λ m. begun_by s x m) (same_drawn (phase_of s.phases x) one.0 other.0 one.1 other.1) ∙ sym other.3
step_once job s (End x) t u one other =
    one.2 ∙ ap (λ m. ended_by job s x m) (same_running (phase_of s.phases x) one.0 other.0 one.1 other.1) ∙ sym other.2

pub runs_once : (job : JobValue) → RunsOnce job
runs_once job s [] t u one other = sym one ∙ other
runs_once job s (event ∷ events) t u (v, step, rest) (w, other_step, other_rest) =
    runs_once job v events t u rest
    (subst (λ x. Runs job x events u) (step_once job s event w v other_step step) other_rest)

pub stays_accepted : (job : JobValue) → StaysAccepted job
stays_accepted job s events t zero runs = (s, refl)
stays_accepted job s [] t (suc n) runs = (t, runs)
stays_accepted job s (event ∷ events) t (suc n) (u, step, rest) =
    let cut = stays_accepted job u events t n rest in
    (cut.0, (u, step, cut.1))

-- an event that the machine allows is not refused
pub step_is_allowed : (job : JobValue) (s : Core) (event : Event) (t : Core) (place : ℕ) (error : CoreError)
    → Steps job s event t → IsRefusedEvent job s place event error → ⊥
step_is_allowed job s (Draw x) t place (Busy at) step refused = subst (λ phase. IsBusy (Draw x) phase) step.0 refused.1
step_is_allowed job s (Draw x) t place (Nothing at) step refused = subst (λ phase. HasNothing (Draw x) phase) step.0 refused.1
step_is_allowed job s (Draw x) t place (NotYet at i) step refused = refused.1
step_is_allowed job s (Begin x) t place (Busy at) step refused = subst (λ phase. IsBusy (Begin x) phase) step.1 refused.1
step_is_allowed job s (Begin x) t place (Nothing at) step refused = subst (λ phase. HasNothing (Begin x) phase) step.1 refused.1
step_is_allowed job s (Begin x) t place (NotYet at i) step refused =
    let why = refused.1 in
    let same : why.0 ≡ step.0 = same_drawn (phase_of s.phases x) why.0 step.0 why.1 step.1 in
    let least : IsLeastUndone job s step.0 i = subst (λ m. IsLeastUndone job s m i) same why.2 in
    true≢false (sym (step.2 i least.ordered) ∙ least.undone)
step_is_allowed job s (End x) t place (Busy at) step refused = subst (λ phase. IsBusy (End x) phase) step.1 refused.1
step_is_allowed job s (End x) t place (Nothing at) step refused = subst (λ phase. HasNothing (End x) phase) step.1 refused.1
step_is_allowed job s (End x) t place (NotYet at i) step refused = refused.1
step_is_allowed job s event t place Memory step refused = refused

-- events that are accepted pass each of their events
passes : (job : JobValue) (s : Core) (events : List Event) (t : Core) (n k : ℕ) (event : Event) → k < n → slice_get events k ≡ Some event
    → Runs job s (take n events) t → (u v : Core) × Runs job s (take k events) u × Steps job u event v
passes job s events t zero k event before at runs = absurd (omega arith)
passes job s [] t (suc n) k event before at runs = absurd (none-some event at)
passes job s (first ∷ events) t (suc n) zero event before at (u, step, rest) =
    (s, u, refl, subst (λ e. Steps job s e u) (same_Some first event at) step)
passes job s (first ∷ events) t (suc n) (suc k) event before at (u, step, rest) =
    let through = passes job u events t n k event (omega arith) at rest in
    (through.0, through.1, (u, step, through.2), through.3)

-- a first fault is past the events that are accepted
fault_is_past : (job : JobValue) (seats : ℕ) (events : List Event) (s : Core) (n : ℕ) (error : CoreError)
    → Runs job (opening seats) (take n events) s → (fails : FailsFirst job seats events error) → fails.before < n → ⊥
fault_is_past job seats events s n error runs fails before =
    let through = passes job (opening seats) events s n fails.before fails.event before fails.is runs in
    let same : through.0 ≡ fails.state = runs_once job (opening seats) (take fails.before events) through.0 fails.state through.2 fails.runs in
    step_is_allowed job fails.state fails.event through.1 (fails.before + 1) error
    (subst (λ u. Steps job u fails.event through.1) same through.3) fails.refused

pub never_both : (job : JobValue) → NeverBoth job
never_both job seats events s error runs fails =
    fault_is_past job seats events s (length events) error
    (subst (λ es. Runs job (opening seats) es s) (sym (take-length events)) runs) fails
    (slice_get_within events fails.before fails.event fails.is)

-- an event has one cause to be refused
busy_has_something : (event : Event) (phase : Option Phase) → IsBusy event phase → HasNothing event phase → ⊥
busy_has_something (Draw x) None busy nothing = busy
busy_has_something (Draw x) (Some Free) busy nothing = busy
busy_has_something (Draw x) (Some (Drawn m)) busy nothing = nothing
busy_has_something (Draw x) (Some (Running m)) busy nothing = nothing
busy_has_something (Draw x) (Some Ended) busy nothing = busy
busy_has_something (Begin x) phase busy nothing = busy
busy_has_something (End x) phase busy nothing = busy

early_is_not_busy : (job : JobValue) (s : Core) (event : Event) (phase : Option Phase) (i : ℕ) → IsBusy event phase → IsNotYet job s event i → ⊥
early_is_not_busy job s (Draw x) phase i busy early = early
early_is_not_busy job s (Begin x) phase i busy early = busy
early_is_not_busy job s (End x) phase i busy early = early

early_has_something : (job : JobValue) (s : Core) (event : Event) (i : ℕ) → HasNothing event (phase_of s.phases (actor_of event))
    → IsNotYet job s event i → ⊥
early_has_something job s (Draw x) i nothing early = early
early_has_something job s (Begin x) i nothing early = subst (λ phase. HasNothing (Begin x) phase) early.1 nothing
early_has_something job s (End x) i nothing early = early

early_is_one : (job : JobValue) (s : Core) (event : Event) (i other : ℕ) → IsNotYet job s event i → IsNotYet job s event other → i ≡ other
early_is_one job s (Draw x) i other one two = absurd one
early_is_one job s (Begin x) i other one two =
    let same : two.0 ≡ one.0 = same_drawn (phase_of s.phases x) two.0 one.0 two.1 one.1 in
    let least : IsLeastUndone job s one.0 other = subst (λ m. IsLeastUndone job s m other) same two.2 in
    let below : i ≤ other = one.2.least other least.ordered least.undone in
    let above : other ≤ i = least.least i one.2.ordered one.2.undone in
    omega arith
early_is_one job s (End x) i other one two = absurd one

refused_once : (job : JobValue) (s : Core) (place : ℕ) (event : Event) (one other : CoreError)
    → IsRefusedEvent job s place event one → IsRefusedEvent job s place event other → one ≡ other
refused_once job s place event (Busy at) (Busy to) h k = ap (λ x. Busy x) (h.0 ∙ sym k.0)
refused_once job s place event (Busy at) (Nothing to) h k = absurd (busy_has_something event (phase_of s.phases (actor_of event)) h.1 k.1)
refused_once job s place event (Busy at) (NotYet to i) h k = absurd (early_is_not_busy job s event (phase_of s.phases (actor_of event)) i h.1 k.1)
refused_once job s place event (Nothing at) (Busy to) h k = absurd (busy_has_something event (phase_of s.phases (actor_of event)) k.1 h.1)
refused_once job s place event (Nothing at) (Nothing to) h k = ap (λ x. Nothing x) (h.0 ∙ sym k.0)
refused_once job s place event (Nothing at) (NotYet to i) h k = absurd (early_has_something job s event i h.1 k.1)
refused_once job s place event (NotYet at i) (Busy to) h k = absurd (early_is_not_busy job s event (phase_of s.phases (actor_of event)) i k.1 h.1)
refused_once job s place event (NotYet at i) (Nothing to) h k = absurd (early_has_something job s event i k.1 h.1)
refused_once job s place event (NotYet at i) (NotYet to j) h k = ap₂ (λ x y. NotYet x y) (h.0 ∙ sym k.0) (early_is_one job s event i j h.1 k.1)
refused_once job s place event Memory other h k = absurd h
refused_once job s place event one Memory h k = absurd k

pub fails_once : (job : JobValue) → FailsOnce job
fails_once job seats events one other first second =
    ⊎_elim {C = one ≡ other}
    (λ (same : first.before ≡ second.before).
    let state : first.state ≡ second.state
    = runs_once job (opening seats) (take first.before events) first.state second.state first.runs
    (subst (λ k. Runs job (opening seats) (take k events) second.state) (sym same) second.runs) in
    let event : first.event ≡ second.event
    = same_Some first.event second.event (sym first.is ∙ ap (λ k. slice_get events k) same ∙ second.is) in
    refused_once job first.state (first.before + 1) first.event one other first.refused
    (subst (λ e. IsRefusedEvent job first.state (first.before + 1) e other) (sym event)
    (subst (λ u. IsRefusedEvent job u (first.before + 1) second.event other) (sym state)
    (subst (λ k. IsRefusedEvent job second.state (k + 1) second.event other) (sym same) second.refused))))
    (⊎_elim {C = one ≡ other}
    (λ (before : first.before < second.before). absurd (fault_is_past job seats events second.state second.before one second.runs first before))
    (λ (after : second.before < first.before). absurd (fault_is_past job seats events first.state first.before other first.runs second after)))
    (cases_order first.before second.before)

-- what is last is as late as any
last_is_late : (job : JobValue) (s : Core) (a one other : ℕ) → IsLast job s a one → IsLast job s a other → one ≤ other
last_is_late job s a one other first second =
    ⊎_elim {C = one ≤ other}
    (λ (none : one ≡ 0). omega arith)
    (λ (some : one ≢ 0). second.greatest one (first.is (omega arith)))
    (cases_eq one 0)

pub last_is_one : (job : JobValue) → LastIsOne job
last_is_one job s a one other first second =
    let below : one ≤ other = last_is_late job s a one other first second in
    let above : other ≤ one = last_is_late job s a other one second first in
    omega arith

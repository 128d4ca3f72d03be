-- How many events the machine accepts: at most three for each draw.
use Rattle.std.proofs.Common.{◌≡◌, ℕ, inl, inr, zero, suc, ◌+◌, ◌-◌, ◌*◌, ◌<◌, ◌≤◌, List, length, Option, Some, None, slice_get, get_or, set, replicate, sum_by, arith, sym, ◌∙◌, subst, mul-zero}
use Rattle.std.proofs.lemmas.List.Folds.{sum_by-replicate}
use Rattle.std.proofs.lemmas.List.Sums.{sum_by-set}
use Rattle.std.proofs.lemmas.Option.{none-some, slice_get_within, get_or_from_slice_get}
use Rattle.waff_model.specs.declared.limits.TheConstants.{MAX_MESSAGES}
use Rattle.waff_core.specs.Job.{JobValue, IsJob}
use Rattle.waff_core.specs.Machine.{Core, Steps, Runs, opening, phase_of, with_phase, phase_drawn}
use Rattle.waff_core.specs.Shown.{IsSteady}
use Rattle.waff_core.specs.declared.actors.Event.{Event}
use Rattle.waff_core.specs.declared.actors.Event.TheVariants.{Draw, Begin, End}
use Rattle.waff_core.specs.declared.actors.Phase.{Phase}
use Rattle.waff_core.specs.declared.actors.Phase.TheVariants.{Free, Drawn, Running, Ended}
use Rattle.waff_core.proofs.Arrival.{draws_are_few}
use Rattle.waff_core.proofs.Clearings.{listed_needs_are_enough}
use Rattle.waff_core.proofs.Sound.{drawn_is_in, sound_reached}

-- how many events an actor's message still takes
abbrev pub left : Phase → ℕ
left Free = 0
left (Drawn m) = 2
left (Running m) = 1
left Ended = 0

abbrev pub all_left : List Phase → ℕ
all_left phases = sum_by left phases

left_after : (phases : List Phase) (x : ℕ) (old new : Phase) → phase_of phases x ≡ Some old
    → all_left (with_phase phases x new) + left old ≡ all_left phases + left new
left_after phases zero old new is = absurd (none-some old is)
left_after phases (suc x) old new is =
    let at : suc x - 1 ≡ x = omega arith in
    let within : x < length phases = slice_get_within phases x old is in
    let read : get_or phases x Free ≡ old = get_or_from_slice_get phases x old Free is in
    let change : all_left (set phases x new) + left (get_or phases x Free) ≡ all_left phases + left new = sum_by-set left phases x new Free within in
    rw at (rw read at change)

-- after n events so many are left at most
abbrev pub IsPaced : ℕ → Core → Type 0
IsPaced n s = n + all_left s.phases ≤ 3 * s.drawn

pub paced_opening : (seats : ℕ) → IsPaced 0 (opening seats)
paced_opening seats = let none : all_left (replicate seats Free) ≡ 0 = sum_by-replicate left seats Free ∙ mul-zero seats in omega (arith, none)

drawn_left : (found : Option ℕ) → left (phase_drawn found) ≤ 2
drawn_left (Some m) = omega arith
drawn_left None = omega arith

pub paced_step : (job : JobValue) (s : Core) (event : Event) (t : Core) (n : ℕ) → Steps job s event t → IsPaced n s → IsPaced (n + 1) t
paced_step job s (Draw x) t n step paced =
    let phase = phase_drawn (slice_get job.order s.drawn) in
    let change = left_after s.phases x Free phase step.0 in
    let few = drawn_left (slice_get job.order s.drawn) in
    subst (IsPaced (n + 1)) (sym step.1)
    (let bound : n + 1 + all_left (with_phase s.phases x phase) ≤ 3 * (s.drawn + 1) = omega (arith, change, few, paced) in bound)
paced_step job s (Begin x) t n step paced =
    let change = left_after s.phases x (Drawn step.0) (Running step.0) step.1 in
    subst (IsPaced (n + 1)) (sym step.3)
    (let bound : n + 1 + all_left (with_phase s.phases x (Running step.0)) ≤ 3 * s.drawn = omega (arith, change, paced) in bound)
paced_step job s (End x) t n step paced =
    let change = left_after s.phases x (Running step.0) Free step.1 in
    subst (IsPaced (n + 1)) (sym step.2)
    (let bound : n + 1 + all_left (with_phase s.phases x Free) ≤ 3 * s.drawn = omega (arith, change, paced) in bound)

-- what is reached is what the steps rest on
pub steady_reached : (job : JobValue) → IsJob job → (seats : ℕ) (events : List Event) (s : Core) → Runs job (opening seats) events s → IsSteady job s
steady_reached job is seats events s runs =
    let sound = sound_reached job is seats events s runs in
    record {
      held = λ x m has. drawn_is_in job is s.drawn m (sound.held x m (inl has));
      running = λ x m has. drawn_is_in job is s.drawn m (sound.held x m (inr has));
      enough = listed_needs_are_enough job is s sound;
    }

-- the events are few
pub events_few : (job : JobValue) → IsJob job → length job.ops ≤ MAX_MESSAGES → (seats : ℕ) → seats ≤ 16 → (events : List Event) (s : Core)
    → Runs job (opening seats) events s → (n : ℕ) → IsPaced n s → (n ≤ 3 * (MAX_MESSAGES + 16)) × (s.drawn ≤ MAX_MESSAGES + 16)
events_few job is few seats short events s runs n paced =
    let bound = draws_are_few job is seats s (events, runs) in
    (omega (arith, paced, bound), omega (arith, bound))

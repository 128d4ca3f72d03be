-- One event more, after others.
use Rattle.std.proofs.Common.{◌≡◌, ℕ, zero, suc, ◌+◌, List, [], ◌∷◌, ◌++◌, Some, take, slice_get, refl, sym, subst, arith}
use Rattle.std.proofs.lemmas.Option.{none-some, same_Some}
use Rattle.waff_core.specs.Job.{JobValue}
use Rattle.waff_core.specs.Machine.{Core, Steps, Runs, opening}
use Rattle.waff_core.specs.Laws.{Reaches}
use Rattle.waff_core.specs.declared.actors.Event.{Event}

-- events after events
pub runs_join : (job : JobValue) (s : Core) (events more : List Event) (t u : Core) → Runs job s events t → Runs job t more u
    → Runs job s (events ++ more) u
runs_join job s [] more t u same runs = subst (λ x. Runs job x more u) (sym same) runs
runs_join job s (event ∷ events) more t u (v, step, rest) runs = (v, step, runs_join job v events more t u rest runs)

-- one event after events
pub runs_more : (job : JobValue) (s : Core) (events : List Event) (t : Core) (event : Event) (u : Core) → Runs job s events t
    → Steps job t event u → Runs job s (events ++ event ∷ []) u
runs_more job s events t event u runs step = runs_join job s events (event ∷ []) t u runs (u, step, refl)

-- so a step from a state that is reached reaches the next
pub reaches_more : (job : JobValue) (seats : ℕ) (s : Core) (event : Event) (t : Core) → Reaches job seats s → Steps job s event t
    → Reaches job seats t
reaches_more job seats s event t (events, runs) step = (events ++ event ∷ [], runs_more job (opening seats) events s event t runs step)

-- the first k events and the next one
pub runs_take_more : (job : JobValue) (s : Core) (events : List Event) (k : ℕ) (event : Event) (t u : Core) → slice_get events k ≡ Some event
    → Runs job s (take k events) t → Steps job t event u → Runs job s (take (k + 1) events) u
runs_take_more job s [] k event t u at runs step = absurd (none-some event at)
runs_take_more job s (first ∷ events) zero event t u at same step =
    (u, subst (λ x. Steps job x first u) (sym same) (subst (λ e. Steps job t e u) (sym (same_Some first event at)) step), refl)
runs_take_more job s (first ∷ events) (suc k) event t u at (v, taken, rest) step =
    let next : suc k + 1 ≡ suc (k + 1) = omega arith in
    subst (λ n. Runs job s (take n (first ∷ events)) u) (sym next)
    (v, taken, runs_take_more job v events k event t u at rest step)

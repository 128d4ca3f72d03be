use Rattle.std.proofs.Common.{◌≡◌, ℕ, ◌+◌, ◌^◌, ◌<◌, ◌≤◌, ◌⊎◌, inl, inr, List, length, arith, refl, sym, ◌∙◌, ap, subst}
use Rattle.waff_plan.specs.Timing.{start_of, work_of}
use Rattle.waff_plan.specs.Work.{IsNumber}
use Rattle.waff_plan.specs.declared.due.TheConstants.{NEVER}
use Rattle.waff_list.specs.Issuing.{IsNextEvent}
use Rattle.waff_list.specs.Orders.{TakesFirst}
use Rattle.waff_list.specs.Placed.{Placed}
use Rattle.waff_list.specs.Plannable.{IsMade, IsPlannedTo, Plannable}
use Rattle.waff_list.specs.Planning.{IsPlanned, placed_in, plannable_of}
use Rattle.waff_list.specs.Telling.{Basis, basis_of}
use Rattle.waff_list.proofs.ClientTasks.{small_of}
use Rattle.waff_list.proofs.IssueEvents.{IsInTime, in_time_early, in_time_next, in_time_none, last_event, next_event, steps_after, steps_fewer}
use Rattle.waff_list.proofs.IssuePlans.{awaits_messages}
use Rattle.waff_list.proofs.Keeping.{made_in_order}
use Rattle.waff_list.proofs.Making.{progress_advance}
use Rattle.waff_list.proofs.Steps.{order_of_waiting}
use Rattle.waff_list.proofs.planner.go_on.Goals as goal
use Rattle.waff_list.proofs.planner.go_on.Goals.{In_ok-start_all, Else-next}

pub loop-started-init : goal.loop-started-init
loop-started-init c = record {
  basis = refl;
  begun = c.requires.begun;
  kept = c.requires.kept;
  time = in_time_none (work_of c.args.task.now.timings.items) (start_of c.args.progress.now.starts.items) 0 (omega arith);
}

early : (c : In_ok-start_all) → c.loop-started.now + 2 ^ 33 < NEVER
early c =
    let early = in_time_early (work_of c.args.task.now.timings.items) (start_of c.loop-started.progress.starts.items) c.loop-started.now c.args.task.now.few c.loop-started.invariant.time in
    omega (arith, early)

-- no message has moved while messages were issued
starts_kept : (c : In_ok-start_all) → c.issue_all.new.progress.starts.items ≡ c.loop-started.progress.starts.items
starts_kept c = ap (λ (x : Placed). x.starts) c.in_ok-issue_all.ensures.placed

placed_before : (c : In_ok-start_all) → (m : ℕ) → IsNumber (work_of c.args.task.now.timings.items) m
    → (start_of c.issue_all.new.progress.starts.items m ≤ c.loop-started.now) ⊎ (start_of c.issue_all.new.progress.starts.items m ≡ NEVER)
placed_before c =
    subst (λ (xs : List ℕ). (m : ℕ) → IsNumber (work_of c.args.task.now.timings.items) m → (start_of xs m ≤ c.loop-started.now) ⊎ (start_of xs m ≡ NEVER)) (sym (starts_kept c))
    c.loop-started.invariant.begun.settled.placed

in_time : (c : In_ok-start_all) → IsInTime (work_of c.args.task.now.timings.items) (start_of c.issue_all.new.progress.starts.items) c.loop-started.now
in_time c = subst (λ (xs : List ℕ). IsInTime (work_of c.args.task.now.timings.items) (start_of xs) c.loop-started.now) (sym (starts_kept c)) c.loop-started.invariant.time

-- the tick has been filled
filled : (c : In_ok-start_all) → IsPlanned c.args.task.now (basis_of c.start_all.new.waiting.service) c.start_all.new.progress c.loop-started.now (length c.args.task.now.timings.items + 1) (c.loop-started.now + 1)
filled c =
    subst (λ (b : Basis). IsPlanned c.args.task.now b c.start_all.new.progress c.loop-started.now (length c.args.task.now.timings.items + 1) (c.loop-started.now + 1)) (sym c.in_ok-start_all.ensures.basis)
    c.in_ok-start_all.ensures.filled

-- and there is a next one
next_is : (c : Else-next) → IsNextEvent (work_of c.args.task.now.timings.items) (start_of c.start_all.new.progress.starts.items) c.start_all.new.progress.finishes c.loop-started.now c.next-next.result
next_is c =
    let task = c.args.task.now in
    let p = c.start_all.new.progress in
    let kept = c.in_ok-start_all.ensures.kept in
    let soon = in_time_early (work_of task.timings.items) (start_of c.loop-started.progress.starts.items) c.loop-started.now task.few c.loop-started.invariant.time in
    next_event (work_of task.timings.items) (start_of p.starts.items) p.finishes p.issues c.loop-started.now c.next-next.result (omega (arith, soon)) kept.waiting.kept.finishes kept.issues
    c.next-next.ensures.finishes c.next-next.ensures.issues
    (elim c.next-next.ensures.one [ inl never ↦ absurd (c.if-next.false never) | inr one ↦ one ])
    (omega (arith, c.if-next.false))

pub loop-started-smaller : goal.loop-started-smaller
loop-started-smaller c =
    let s = (goal.at.loop-started-smaller c).In_ok-start_all in
    let task = c.args.task.now in
    let work = work_of task.timings.items in
    let p = c.start_all.new.progress in
    let starts = ap (λ (x : Placed). x.starts) c.in_ok-finish_all.ensures.placed in
    let fewer = steps_fewer work (awaits_messages work task.earlier) (small_of task) c.issue_all.new.progress.starts.items p.starts.items c.loop-started.now c.next-next.result
    (placed_before s) c.in_ok-start_all.ensures.stay (filled s).settled.placed p.finishes c.in_ok-start_all.ensures.kept.waiting.kept.finishes (next_is (goal.at.loop-started-smaller c).Else-next) in
    subst (λ (xs : List ℕ). steps_after work (start_of c.finish_all.new.progress.starts.items) c.next-next.result < steps_after work (start_of xs) c.loop-started.now) (starts_kept s)
    (subst (λ (xs : List ℕ). steps_after work (start_of xs) c.next-next.result < steps_after work (start_of c.issue_all.new.progress.starts.items) c.loop-started.now) (sym starts) fewer)

pub loop-started-preserved : goal.loop-started-preserved
loop-started-preserved c =
    let s = (goal.at.loop-started-preserved c).In_ok-start_all in
    let task = c.args.task.now in
    let work = work_of task.timings.items in
    let p = c.start_all.new.progress in
    let start = start_of p.starts.items in
    let now = c.loop-started.now in
    let next = c.next-next.result in
    let kept = c.in_ok-start_all.ensures.kept in
    let finish = c.in_ok-finish_all.ensures in
    let event = next_is (goal.at.loop-started-preserved c).Else-next in
    let starts = ap (λ (x : Placed). x.starts) finish.placed in
    let plan : Plannable = plannable_of task (basis_of c.start_all.new.waiting.service) in
    let order = order_of_waiting task p c.start_all.new.waiting _ kept.issued now kept.waiting in
    let advanced = progress_advance (plan.order.before start) (TakesFirst plan.priority (plan.order.key start)) work plan.workers (order.numbers start) (awaits_messages work task.earlier)
    (placed_in p) now next p.finishes kept.waiting.kept.finishes event.later event.tick event.first event.issues (filled s) in
    record {
      basis = finish.basis ∙ c.in_ok-start_all.ensures.basis ∙ c.in_ok-issue_all.ensures.basis ∙ c.loop-started.invariant.basis;
      begun = subst (λ (b : Basis). IsPlanned task b c.finish_all.new.progress next 1 next) (sym finish.basis)
          (subst (λ (x : Placed). IsPlannedTo plan x next 1 next) (sym finish.placed) advanced);
      kept = finish.woken now (early s) event.later (filled s) kept;
      time = subst (λ (xs : List ℕ). IsInTime work (start_of xs) next) (sym starts)
          (in_time_next work (awaits_messages work task.earlier) (small_of task) c.issue_all.new.progress.starts.items p.starts.items now next (placed_before s)
          c.in_ok-start_all.ensures.stay (filled s).settled.placed p.finishes kept.waiting.kept.finishes event (in_time s));
    }

pub returns-then-next : goal.returns-then-next
returns-then-next c =
    let s = (goal.at.returns-then-next c).In_ok-start_all in
    let task = c.args.task.now in
    let p = c.start_all.new.progress in
    let work = work_of task.timings.items in
    let now = c.loop-started.now in
    let kept = c.in_ok-start_all.ensures.kept in
    let soon = in_time_early work (start_of c.loop-started.progress.starts.items) now task.few c.loop-started.invariant.time in
    let last = last_event work (start_of p.starts.items) p.finishes p.issues now c.next-next.result (omega (arith, soon)) kept.waiting.kept.finishes kept.issues
    c.next-next.ensures.finishes c.next-next.ensures.issues c.if-next.true in
    let order = order_of_waiting task p c.start_all.new.waiting _ kept.issued now kept.waiting in
    let made = made_in_order (plannable_of task (basis_of c.start_all.new.waiting.service)) order task.earlier (placed_in p) now task.some.from soon (small_of task) (filled s)
    p.finishes kept.waiting.kept.finishes last in
    record {
      made = subst (λ (b : Basis). IsMade (plannable_of task b) (placed_in p)) (c.in_ok-start_all.ensures.basis ∙ c.in_ok-issue_all.ensures.basis ∙ c.loop-started.invariant.basis) made;
    }

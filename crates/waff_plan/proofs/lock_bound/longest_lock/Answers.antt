-- One lock after another.
use Rattle.std.proofs.Common.{◌≡◌, ◌<◌, length, arith, sym, ◌∙◌, subst}
use Rattle.std.proofs.lemmas.List.{get_or_default}
use Rattle.waff_plan.specs.LockNeeds.{IsLockNeed, no_need}
use Rattle.waff_plan.specs.LowerBound.{lock_cost, own_cost}
use Rattle.waff_plan.specs.Peak.{IsPeak}
use Rattle.waff_plan.specs.Planned.{planned_work}
use Rattle.waff_plan.proofs.LockNeedLemmas.{need_small, need_unused, need_used}
use Rattle.waff_plan.proofs.lock_bound.longest_lock.Goals as goal
use Rattle.waff_plan.proofs.lock_bound.longest_lock.Goals.{After-index-need, then-need, else-need}

-- what is known of the lock
need : (c : After-index-need) → IsLockNeed c.args.planned.now.case.assigned.now (planned_work c.args.planned.now) (length c.args.planned.now.case.assigned.now) c.loop-lock.lock c.index-need.result.now
need c =
    let low = c.loop-lock-test.true in
    let there : c.loop-lock.lock < length c.in_ok-needs.needs.items = omega (arith, low, c.in_ok-needs.ensures.count) in
    let read = c.index-need.ensures ∙ get_or_default c.in_ok-needs.needs.items c.loop-lock.lock c.index-need.result.now no_need there in
    subst (IsLockNeed c.args.planned.now.case.assigned.now (planned_work c.args.planned.now) (length c.args.planned.now.case.assigned.now) c.loop-lock.lock) (sym read)
    (c.in_ok-needs.ensures.each c.loop-lock.lock low)

long : (c : After-index-need) → length c.args.planned.now.case.assigned.now ≡ (planned_work c.args.planned.now).count
long c = sym c.args.planned.now.lengths

root : (c : After-index-need) → c.index-in_root.result.now ≡ own_cost c.args.planned.now.case.assigned.now (planned_work c.args.planned.now) 0
root c =
    let filled = c.len-affinities.ensures.tree.filled in
    let there : 0 < length c.in_ok-costs.costs.items = omega (arith, filled, c.in_ok-costs.ensures.count) in
    c.index-in_root.ensures ∙ get_or_default c.in_ok-costs.costs.items 0 c.index-in_root.result.now 0 there ∙ c.in_ok-costs.ensures.each 0 filled

pub overflow_add-ticks : goal.overflow_add-ticks
overflow_add-ticks c =
    let s = (goal.at.overflow_add-ticks c).After-index-need in
    let small = need_small c.args.planned.now.case.assigned.now (planned_work c.args.planned.now) c.loop-lock.lock c.index-need.result.now (need s) (long s) in
    omega (arith, root s, small.0, small.1, c.total-total.ensures.total, c.total-total.ensures.small)

pub overflow_add-ticks-then-need : goal.overflow_add-ticks-then-need
overflow_add-ticks-then-need c =
    let s = (goal.at.overflow_add-ticks-then-need c).After-index-need in
    let small = need_small c.args.planned.now.case.assigned.now (planned_work c.args.planned.now) c.loop-lock.lock c.index-need.result.now (need s) (long s) in
    omega (arith, root s, small.0, small.1, c.total-total.ensures.total, c.total-total.ensures.small)

pub returns-then-count-eq0 : goal.returns-then-count-eq0
returns-then-count-eq0 c =
    let f = lock_cost c.args.planned.now.case.assigned.now (planned_work c.args.planned.now) in
    (c.lock_count-count.result, c.lock_count-count.ensures, subst (λ n. IsPeak f 0 n c.none.result) (sym c.if-count-eq0.true) (c.none.ensures f 0))

pub loop-lock-init : goal.loop-lock-init
loop-lock-init c = c.none-longest.ensures (lock_cost c.args.planned.now.case.assigned.now (planned_work c.args.planned.now)) 0

pub loop-lock-preserved : goal.loop-lock-preserved
loop-lock-preserved c =
    let s = (goal.at.loop-lock-preserved c).After-index-need in
    let assigned = c.args.planned.now.case.assigned.now in
    let work = planned_work c.args.planned.now in
    let lock = c.loop-lock.lock in
    let ticks : lock_cost assigned work lock ≡ c.if-need.ticks = elim c.if-need.branch [
      | then-need w ↦
          let is = need_used assigned work lock c.index-need.result.now (need s) (long s) w.if-need.true in
          omega (arith, w.ticks-is, root s, is)
      | else-need w ↦
          let is = need_unused assigned work lock c.index-need.result.now (need s) (long s) w.if-need.false in
          omega (arith, w.ticks-is, is)
    ] in
    c.or-longest.ensures (lock_cost assigned work) 0 lock (omega arith) ticks c.loop-lock.invariant

pub returns : goal.returns
returns c =
    let all : c.loop-lock.lock ≡ c.lock_count-count.result = omega (arith, c.loop-lock-test.false, c.loop-lock.auto.lock-end) in
    let f = lock_cost c.args.planned.now.case.assigned.now (planned_work c.args.planned.now) in
    (c.lock_count-count.result, c.lock_count-count.ensures, subst (λ n. IsPeak f 0 n c.loop-lock.longest) all c.loop-lock.invariant)

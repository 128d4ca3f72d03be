use Rattle.std.proofs.Common.{◌≡◌, ℕ, ◌+◌, ◌-◌, ◌≤◌, ◌++◌, List, All, Option, get_or, length, None, IfSome, arith, sym, ◌∙◌, ap, subst}
use Rattle.std.proofs.lemmas.List.{get_or_read}
use Rattle.waff_plan.specs.Planned.{planned_pairs, planned_starts, planned_work}
use Rattle.waff_plan.specs.Timetable.{Timetable, starts_in, work_in}
use Rattle.waff_plan.specs.Work.{IsAmongFirst}
use Rattle.waff_plan.specs.declared.planned.Planned.{Planned}
use Rattle.waff_plan.specs.Waited.{AreWaitedFor}
use Rattle.waff_figures.proofs.WaitLemmas.{AreSoFar, all_links_known, first_known, links_known, upto_more, upto_so_far, waits_upto}
use Rattle.waff_figures.specs.WaitLocks.{AreBy}
use Rattle.waff_figures.specs.Waits.{waits_in}
use Rattle.waff_figures.specs.declared.waits.Wait.{Wait}
use Rattle.waff_figures.proofs.waits.waits.Goals as goal

pub locks_waited_for-requires-clause-known : goal.locks_waited_for-requires-clause-known
locks_waited_for-requires-clause-known c =
    let planned = c.args.planned.now in
    let plan = planned.plan.now in
    let count = length planned.case.assigned.now in
    subst (All (λ link. IfSome link (IsAmongFirst count))) (sym c.as_slice.ensures.value)
    (all_links_known (planned_pairs planned) count (first_known plan.version planned.case.tree.now planned.case.assigned.now (starts_in plan)) (work_in plan)
    (starts_in plan) c.in_ok-links.links.items (length plan.timings) planned.lengths c.in_ok-links.ensures.count c.in_ok-links.ensures.waited)

pub push_waits-requires-clause-link : goal.push_waits-requires-clause-link
push_waits-requires-clause-link c =
    let planned = c.args.planned.now in
    let plan = planned.plan.now in
    let assigned = planned.case.assigned.now in
    let links = c.in_ok-links.links.items in
    let m = c.loop-m.m in
    let from : 1 ≤ m = c.loop-m.auto.m in
    let to : m ≤ length assigned = omega (arith, c.loop-m-test.true, c.len-m-end.ensures.count, planned.lengths) in
    let read : c.index.result.now ≡ get_or links (m - 1) None
    = get_or_read links (m - 1) c.index.result.now (omega (arith, from, to, c.in_ok-links.ensures.count, planned.lengths)) c.index.ensures None in
    subst (λ link. IfSome link (IsAmongFirst (length assigned))) (sym read)
    (links_known (planned_pairs planned) (length assigned) (first_known plan.version planned.case.tree.now assigned (starts_in plan)) (work_in plan) (starts_in plan)
    links (length plan.timings) planned.lengths c.in_ok-links.ensures.waited m from to)

pub loop-m-preserved : goal.loop-m-preserved
loop-m-preserved c =
    let work = work_in c.args.planned.now.plan.now in
    let start = starts_in c.args.planned.now.plan.now in
    let links = c.in_ok-links.links.items in
    let m = c.loop-m.m in
    let from : 1 ≤ m = c.loop-m.auto.m in
    let this : m - 1 + 1 ≡ m = omega (arith, from) in
    let next : m ≡ m + 1 - 1 = omega arith in
    let read : c.index.result.now ≡ get_or links (m - 1) None
    = get_or_read links (m - 1) c.index.result.now (omega (arith, from, c.loop-m-test.true, c.len-m-end.ensures.count, c.in_ok-links.ensures.count)) c.index.ensures None in
    let locks = c.in_ok-locks.locks.items in
    let by : c.lock_of-by.result ≡ get_or locks (m - 1) None = c.lock_of-by.ensures ∙ ap (λ ls. get_or ls (m - 1) None) c.as_slice-in-loop-m.ensures.value in
    c.in_ok-push_waits.ensures
    ∙ ap (λ link. c.loop-m.waits.items ++ waits_in work start m link c.lock_of-by.result) read
    ∙ ap (λ l. c.loop-m.waits.items ++ waits_in work start m (get_or links (m - 1) None) l) by
    ∙ ap (λ ws. ws ++ waits_in work start m (get_or links (m - 1) None) (get_or locks (m - 1) None)) c.loop-m.invariant
    ∙ sym (upto_more work start links locks (m - 1) m this)
    ∙ ap (λ k. waits_upto work start links locks k) next

-- the waits of all messages
all_waits : (plan : Timetable) (links locks : List (Option ℕ)) (waits : List Wait) (m : ℕ) → 1 ≤ m → m ≡ length plan.timings + 1
    → waits ≡ waits_upto (work_in plan) (starts_in plan) links locks (m - 1) → waits ≡ waits_upto (work_in plan) (starts_in plan) links locks (length plan.timings)
all_waits plan links locks waits m from end is =
    is ∙ ap (λ k. waits_upto (work_in plan) (starts_in plan) links locks k) (let e : m - 1 ≡ length plan.timings = omega (arith, from, end) in e)

pub returns-clause-waits : goal.returns-clause-waits
returns-clause-waits c = record {
  links = c.in_ok-links.links.items;
  locks = c.in_ok-locks.locks.items;
  are_links = c.in_ok-links.ensures.waited;
  are_locks = subst (λ links. AreBy c.args.planned.now.case.tree.now c.args.planned.now.case.assigned.now links c.in_ok-locks.locks.items)
      c.as_slice.ensures.value c.in_ok-locks.ensures;
  waits_are = all_waits c.args.planned.now.plan.now c.in_ok-links.links.items c.in_ok-locks.locks.items c.loop-m.waits.items c.loop-m.m c.loop-m.auto.m
      (omega (arith, c.loop-m-test.false, c.len-m-end.ensures.count, c.loop-m.auto.m, c.loop-m.auto.m-end)) c.loop-m.invariant;
}

-- they come in order, and are of these messages
are_so_far : (planned : Planned) (links locks : List (Option ℕ)) (waits : List Wait) (m : ℕ) → 1 ≤ m → m ≡ length planned.plan.now.timings + 1
    → waits ≡ waits_upto (planned_work planned) (planned_starts planned) links locks (m - 1)
    → AreWaitedFor (planned_pairs planned) (planned_work planned) (planned_starts planned) (length planned.plan.now.timings) links
    → AreSoFar (length planned.case.assigned.now) (length planned.plan.now.timings) waits
are_so_far planned links locks waits m from end is are =
    let n = length planned.plan.now.timings in
    let count = length planned.case.assigned.now in
    subst (AreSoFar count n) (sym (all_waits planned.plan.now links locks waits m from end is))
    (upto_so_far (planned_work planned) (planned_starts planned) links locks count n (omega (arith, planned.lengths))
    (links_known (planned_pairs planned) count (first_known planned.plan.now.version planned.case.tree.now planned.case.assigned.now (planned_starts planned))
    (planned_work planned) (planned_starts planned) links n planned.lengths are))

pub returns-clause-order : goal.returns-clause-order
returns-clause-order c =
    (are_so_far c.args.planned.now c.in_ok-links.links.items c.in_ok-locks.locks.items c.loop-m.waits.items c.loop-m.m c.loop-m.auto.m
    (omega (arith, c.loop-m-test.false, c.len-m-end.ensures.count, c.loop-m.auto.m, c.loop-m.auto.m-end)) c.loop-m.invariant
    c.in_ok-links.ensures.waited).order

pub returns-clause-among : goal.returns-clause-among
returns-clause-among c =
    (are_so_far c.args.planned.now c.in_ok-links.links.items c.in_ok-locks.locks.items c.loop-m.waits.items c.loop-m.m c.loop-m.auto.m
    (omega (arith, c.loop-m-test.false, c.len-m-end.ensures.count, c.loop-m.auto.m, c.loop-m.auto.m-end)) c.loop-m.invariant
    c.in_ok-links.ensures.waited).among

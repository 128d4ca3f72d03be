-- The needs of one message after another.
use Rattle.std.proofs.Common.{◌≡◌, ℕ, ◌+◌, ◌-◌, ◌<◌, All, None, length, get_or, arith, sym, ◌∙◌, ap, subst}
use Rattle.std.specs.Cmp.{both_ways}
use Rattle.std.proofs.lemmas.List.{get_or-replicate, length-replicate}
use Rattle.waff_assign.specs.Held.{IsRising, nothing}
use Rattle.waff_assign.specs.Order.{affinity_of, held_of}
use Rattle.waff_assign.specs.declared.held.LockUse.{LockUse}
use Rattle.waff_plan.specs.LockNeeds.{IsLockNeed, IsNeedWith, no_need}
use Rattle.waff_plan.specs.LowerBound.{option_is, uses_alone, uses_lock}
use Rattle.waff_plan.specs.Timetable.{work_in}
use Rattle.waff_plan.specs.declared.lock_bound.LockNeed.{LockNeed}
use Rattle.waff_plan.proofs.LockNeedLemmas.{kept_more, lock_need_more, lock_need_none}
use Rattle.waff_plan.proofs.LockUses.{is_option, option_of}
use Rattle.waff_plan.proofs.lock_bound.lock_needs.Goals as goal
use Rattle.waff_plan.proofs.lock_bound.lock_needs.Goals.{After-cost}

pub loop-n-init : goal.loop-n-init
loop-n-init c =
    let items = c.in_ok-needs.ensures.items_if_clones_equal (λ y is. is) in
    let read : (lock : ℕ) → lock < c.args.count → get_or c.in_ok-needs.needs.items lock no_need ≡ no_need
    = λ lock low. ap (λ xs. get_or xs lock no_need) items ∙ get_or-replicate c.args.count lock no_need no_need low in
    record {
      count = ap length items ∙ length-replicate c.args.count no_need;
      each = λ lock low. subst (IsLockNeed c.args.case.now.assigned.now (work_in c.args.plan.now) 0 lock) (sym (read lock low)) (lock_need_none c.args.case.now.assigned.now (work_in c.args.plan.now) lock);
      small = λ lock low. omega (arith, ap (λ (need : LockNeed). need.kept) (read lock low));
    }

known : (c : After-cost) → c.loop-n.n - 1 < length c.args.case.now.assigned.now
known c = omega (arith, c.loop-n.auto.n, c.loop-n-test.true, c.len-n-end.ensures.count, c.requires.lengths)

pub note_uses-requires-clause-below : goal.note_uses-requires-clause-below
note_uses-requires-clause-below c =
    let here = c.requires.below (c.loop-n.n - 1) nothing (known (goal.at.note_uses-requires-clause-below c).After-cost) in
    subst (λ n. All (λ (u : LockUse). u.lock < n) c.uses.result.now) (sym c.loop-n.invariant.count)
    (subst (All (λ (u : LockUse). u.lock < c.args.count)) (sym c.uses.ensures) here)

pub note_uses-requires-clause-rising : goal.note_uses-requires-clause-rising
note_uses-requires-clause-rising c =
    let held = c.args.case.now.known (c.loop-n.n - 1) nothing (known (goal.at.note_uses-requires-clause-rising c).After-cost) in
    subst IsRising (sym c.uses.ensures) held.rising

pub note_uses-requires-clause-small : goal.note_uses-requires-clause-small
note_uses-requires-clause-small c = λ lock low.
    omega (arith, c.loop-n.invariant.small lock (omega (arith, low, c.loop-n.invariant.count)), c.len-n-end.ensures.table.few, c.loop-n-test.true, c.len-n-end.ensures.count)

pub loop-n-preserved : goal.loop-n-preserved
loop-n-preserved c =
    let assigned = c.args.case.now.assigned.now in
    let work = work_in c.args.plan.now in
    let n = c.loop-n.n in
    let so_far = c.loop-n.invariant in
    let back : n - 1 + 1 ≡ n = omega (arith, c.loop-n.auto.n) in
    let next : n - 1 + 1 ≡ n + 1 - 1 = omega (arith, c.loop-n.auto.n) in
    let held = held_of assigned n in
    let within : n - 1 < length assigned = omega (arith, c.loop-n.auto.n, c.loop-n-test.true, c.len-n-end.ensures.count, c.requires.lengths) in
    let root : c.is_root-in_root.result ≡ option_is 0 (affinity_of assigned n) = both_ways _ _
    (λ is. is_option 0 (affinity_of assigned n) (sym c.affinity.ensures ∙ c.is_root-in_root.ensures.0 is))
    (λ is. c.is_root-in_root.ensures.1 (c.affinity.ensures ∙ option_of 0 (affinity_of assigned n) is)) in
    record {
      count = c.note_uses.ensures.count ∙ so_far.count;
      each = λ lock low.
          let there : lock < length c.loop-n.needs.items = omega (arith, low, so_far.count) in
          let old = get_or c.loop-n.needs.items lock no_need in
          let new = get_or c.note_uses.new.needs.items lock no_need in
          let need = subst (λ us. IsNeedWith c.is_root-in_root.result c.cost.result (uses_alone lock (record { affinity = None; uses = us })) (uses_lock lock (record { affinity = None; uses = us })) old new) c.uses.ensures (c.note_uses.ensures.each lock there) in
          subst (λ k. IsLockNeed assigned work k lock new) next
          (lock_need_more assigned work (n - 1) lock c.is_root-in_root.result c.cost.result old new within
          (root ∙ ap (λ k. option_is 0 (affinity_of assigned k)) (sym back))
          (c.cost.ensures.cost ∙ ap work.cost (sym back))
          (so_far.each lock low)
          (subst (λ k. IsNeedWith c.is_root-in_root.result c.cost.result (uses_alone lock (held_of assigned k)) (uses_lock lock (held_of assigned k)) old new) (sym back) need));
      small = λ lock low.
          let there : lock < length c.loop-n.needs.items = omega (arith, low, so_far.count) in
          let kept = kept_more c.is_root-in_root.result c.cost.result (uses_alone lock (record { affinity = None; uses = c.uses.result.now })) (uses_lock lock (record { affinity = None; uses = c.uses.result.now }))
          (get_or c.loop-n.needs.items lock no_need) (get_or c.note_uses.new.needs.items lock no_need) (c.note_uses.ensures.each lock there) in
          omega (arith, kept, so_far.small lock low, c.cost.ensures.small, c.loop-n.auto.n);
    }

pub returns-clause-each : goal.returns-clause-each
returns-clause-each c = λ lock low.
    let assigned = c.args.case.now.assigned.now in
    let all : c.loop-n.n - 1 ≡ length assigned = omega (arith, c.loop-n.auto.n, c.loop-n.auto.n-end, c.loop-n-test.false, c.len-n-end.ensures.count, c.requires.lengths) in
    subst (λ k. IsLockNeed assigned (work_in c.args.plan.now) k lock (get_or c.loop-n.needs.items lock no_need)) all (c.loop-n.invariant.each lock low)

-- The finish of one message after another.
use Rattle.std.proofs.Common.{◌≡◌, ◌+◌, ◌-◌, map, arith, sym, ◌∙◌, ap, subst}
use Rattle.std.specs.List.{range_with_len}
use Rattle.waff_plan.specs.LowerBound.{earliest_finish}
use Rattle.waff_plan.specs.Peak.{IsPeak}
use Rattle.waff_plan.specs.Timing.{work_by}
use Rattle.waff_plan.proofs.LowerBounds.{finishes_count, finishes_more}
use Rattle.waff_plan.proofs.lower_bound.longest_awaiting.Goals as goal

pub earliest-finish-requires-clause-finishes : goal.earliest-finish-requires-clause-finishes
earliest-finish-requires-clause-finishes c =
    let work = work_by c.args.awaited c.args.plan.now.timings in
    let are = c.loop-n.invariant.finishes in
    rw c.deref.ensures.value (are ∙ ap (λ k. map (earliest_finish work) (range_with_len 1 k)) (sym (finishes_count work c.loop-n.n c.loop-n.finishes.items are)))

pub earliest-finish-requires-clause-before : goal.earliest-finish-requires-clause-before
earliest-finish-requires-clause-before c =
    let count = finishes_count (work_by c.args.awaited c.args.plan.now.timings) c.loop-n.n c.loop-n.finishes.items c.loop-n.invariant.finishes in
    rw c.deref.ensures.value (omega (arith, count, c.loop-n.auto.n))

pub loop-n-preserved : goal.loop-n-preserved
loop-n-preserved c =
    let work = work_by c.args.awaited c.args.plan.now.timings in
    let finish = c.earliest-finish.ensures in
    record {
      finishes = finishes_more work c.loop-n.n c.earliest-finish.result c.loop-n.finishes.items c.push.new.self.items c.loop-n.auto.n c.loop-n.invariant.finishes finish c.in_ok-push.ensures.items;
      longest = subst (λ k. IsPeak (earliest_finish work) 1 k c.or-longest.result) (let next : c.loop-n.n - 1 + 1 ≡ c.loop-n.n + 1 - 1 = omega (arith, c.loop-n.auto.n) in next)
          (c.or-longest.ensures (earliest_finish work) 1 (c.loop-n.n - 1) (omega (arith, c.loop-n.auto.n)) (sym finish) c.loop-n.invariant.longest);
    }

pub loop-n-init : goal.loop-n-init
loop-n-init c = record { finishes = c.in_ok-finishes.ensures.items; longest = c.none-longest.ensures (earliest_finish (work_by c.args.awaited c.args.plan.now.timings)) 1 }

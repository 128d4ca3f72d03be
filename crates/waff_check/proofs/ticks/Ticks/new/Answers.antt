-- The ticks of one message after another, and of all in order.
use Rattle.std.proofs.Common.{◌≡◌, ◌-◌, arith}
use Rattle.std.proofs.lemmas.List.Sorted.{IsNonDecreasingBy-from_sort}
use Rattle.waff_plan.specs.Timing.{start_of, work_of}
use Rattle.waff_plan.specs.Work.{finish_of}
use Rattle.waff_check.proofs.TickLaws.{ticks-more}
use Rattle.waff_check.proofs.ticks.Ticks.new.Goals as goal

pub loop-n-preserved : goal.loop-n-preserved
loop-n-preserved c =
    let start = start_of c.args.plan.now.starts in
    let finish = finish_of (work_of c.args.plan.now.timings) start in
    let n = c.loop-n.n in
    let so_far = c.loop-n.invariant in
    record {
      starts = ticks-more start n c.start.result c.loop-n.starts.items c.push.new.self.items c.loop-n.auto.n so_far.starts c.start.ensures.start c.in_ok-push.ensures.items;
      finishes = ticks-more finish n c.finish.result c.loop-n.finishes.items c.push-in-loop-n.new.self.items c.loop-n.auto.n so_far.finishes c.finish.ensures.finish c.in_ok-push-2.ensures.items;
    }

pub invariant_of-result : goal.invariant_of-result
invariant_of-result c = record {
  starts_rise = IsNonDecreasingBy-from_sort (λ x. x) c.sort_unstable.new.self.items c.sort_unstable.ensures.sorted;
  finishes_rise = IsNonDecreasingBy-from_sort (λ x. x) c.sort_unstable-2.new.self.items c.sort_unstable-2.ensures.sorted;
}

pub returns : goal.returns
returns c =
    let all : c.loop-n.n - 1 ≡ (work_of c.args.plan.now.timings).count = omega (arith, c.len-n-end.ensures.count) in
    let starts = rw all at c.loop-n.invariant.starts in
    let finishes = rw all at c.loop-n.invariant.finishes in
    record {
      of_starts = rw starts at c.sort_unstable.ensures.permutation;
      of_finishes = rw finishes at c.sort_unstable-2.ensures.permutation;
    }

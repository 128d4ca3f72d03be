-- The latencies of one message after another, and of all in order.
use Rattle.std.proofs.Common.{◌≡◌, ◌+◌, ◌-◌, length, arith, sym, ◌∙◌, ap}
use Rattle.std.specs.List.{range_with_len}
use Rattle.std.proofs.lemmas.List.{length-map}
use Rattle.std.proofs.lemmas.List.FromFn.{length-range_with_len, map-range_with_len_more}
use Rattle.std.proofs.lemmas.List.Sorted.{IsNonDecreasingBy-from_sort, length_permutation}
use Rattle.waff_plan.specs.Timing.{start_of, work_of}
use Rattle.waff_figures.specs.Figures.{latency_of}
use Rattle.waff_figures.proofs.figures.sorted_latencies.Goals as goal

pub loop-n-preserved : goal.loop-n-preserved
loop-n-preserved c =
    let one = latency_of (work_of c.args.plan.now.timings) (start_of c.args.plan.now.starts) in
    let n = c.loop-n.n in
    let next : n + 1 - 1 ≡ n - 1 + 1 = omega (arith, c.loop-n.auto.n) in
    record {
      items = rw (c.push_reserved.ensures.items, c.latency.ensures.latency, c.loop-n.invariant.items, next)
          (sym (map-range_with_len_more one 1 (n - 1) n (omega (arith, c.loop-n.auto.n))));
      room = c.push_reserved.ensures.capacity ∙ c.loop-n.invariant.room;
    }

pub push_reserved-requires : goal.push_reserved-requires
push_reserved-requires c =
    let one = latency_of (work_of c.args.plan.now.timings) (start_of c.args.plan.now.starts) in
    let n = c.loop-n.n - 1 in
    let long = ap length c.loop-n.invariant.items ∙ length-map (range_with_len 1 n) one ∙ length-range_with_len 1 n in
    omega (arith, long, c.loop-n.latencies.ok.0, c.loop-n.invariant.room, c.loop-n-test.true, c.len-n-end.ensures.count, c.loop-n.auto.n)

pub returns-clause-sorted : goal.returns-clause-sorted
returns-clause-sorted c = IsNonDecreasingBy-from_sort (λ x. x) c.sort_unstable.new.self.items c.sort_unstable.ensures.sorted

pub returns-clause-few : goal.returns-clause-few
returns-clause-few c =
    let one = latency_of (work_of c.args.plan.now.timings) (start_of c.args.plan.now.starts) in
    let n = c.loop-n.n - 1 in
    let long = length_permutation c.loop-n.latencies.items c.sort_unstable.new.self.items c.sort_unstable.ensures.permutation
    ∙ ap length c.loop-n.invariant.items ∙ length-map (range_with_len 1 n) one ∙ length-range_with_len 1 n in
    omega (arith, long, c.len-n-end.ensures.table.few, c.loop-n.auto.n, c.loop-n.auto.n-end, c.len-n-end.ensures.count)

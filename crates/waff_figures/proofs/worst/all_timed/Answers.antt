use Rattle.std.proofs.Common.{◌≡◌, ℕ, ◌+◌, ◌-◌, length, arith, sym, ◌∙◌, ap}
use Rattle.std.specs.List.{range_with_len}
use Rattle.std.proofs.lemmas.List.{length-map}
use Rattle.std.proofs.lemmas.List.FromFn.{length-range_with_len, map-range_with_len_more}
use Rattle.waff_plan.specs.Timing.{start_of, work_of}
use Rattle.waff_figures.specs.Figures.{latency_of}
use Rattle.waff_figures.specs.declared.worst.Timed.{Timed}
use Rattle.waff_figures.proofs.WorstLemmas.{timed_by}
use Rattle.waff_figures.proofs.worst.all_timed.Goals as goal

pub loop-message-preserved : goal.loop-message-preserved
loop-message-preserved c =
    let one : ℕ → Timed = timed_by (latency_of (work_of c.args.plan.now.timings) (start_of c.args.plan.now.starts)) in
    let n = c.loop-message.message in
    let next : n + 1 - 1 ≡ n - 1 + 1 = omega (arith, c.loop-message.auto.message) in
    record {
      items = rw (c.push_reserved.ensures.items, c.latency-latency.ensures.latency, c.loop-message.invariant.items, next)
          (sym (map-range_with_len_more one 1 (n - 1) n (omega (arith, c.loop-message.auto.message))));
      room = c.push_reserved.ensures.capacity ∙ c.loop-message.invariant.room;
    }

pub push_reserved-requires : goal.push_reserved-requires
push_reserved-requires c =
    let one : ℕ → Timed = timed_by (latency_of (work_of c.args.plan.now.timings) (start_of c.args.plan.now.starts)) in
    let n = c.loop-message.message - 1 in
    let long = ap length c.loop-message.invariant.items ∙ length-map (range_with_len 1 n) one ∙ length-range_with_len 1 n in
    omega (arith, long, c.loop-message.timed.ok.0, c.loop-message.invariant.room, c.loop-message-test.true, c.len-message-end.ensures.count, c.loop-message.auto.message)

use Rattle.std.proofs.Common.{◌≡◌, ℕ, ◌+◌, ◌-◌, sum_by, arith, sym, ◌∙◌, ap}
use Rattle.std.specs.List.{range_with_len}
use Rattle.waff_plan.specs.Timing.{start_of, work_of}
use Rattle.waff_plan.proofs.Longest.{sum_more}
use Rattle.waff_figures.specs.Figures.{latency_of}
use Rattle.waff_figures.proofs.figures.sum_of_latencies.Goals as goal

pub loop-n-preserved : goal.loop-n-preserved
loop-n-preserved c =
    let one : ℕ → ℕ = latency_of (work_of c.args.plan.now.timings) (start_of c.args.plan.now.starts) in
    let n = c.loop-n.n - 1 in
    let this : n + 1 ≡ c.loop-n.n = omega arith in
    let next : n + 1 ≡ c.loop-n.n + 1 - 1 = omega arith in
    let more = sum_more one n in
    let here : one c.loop-n.n ≡ c.from-sum.result = sym (c.from-sum.ensures ∙ c.latency.ensures.latency) in
    let last : one (n + 1) ≡ c.from-sum.result = ap one this ∙ here in
    let step : c.loop-n.sum + c.from-sum.result ≡ sum_by one (range_with_len 1 (n + 1)) = omega (arith, more, last, c.loop-n.invariant.sum) in
    record {
      sum = step ∙ ap (λ k. sum_by one (range_with_len 1 k)) next;
      small = omega (arith, c.loop-n.invariant.small, c.latency.ensures.small, c.from-sum.ensures);
    }

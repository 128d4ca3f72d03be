use Rattle.std.proofs.Common.{◌≡◌, ℕ, ◌+◌, ◌-◌, map, arith, sym, ◌∙◌, ap}
use Rattle.std.specs.List.{range_with_len}
use Rattle.waff_plan.specs.Timing.{start_of, work_of}
use Rattle.waff_plan.specs.Work.{greatest}
use Rattle.waff_plan.proofs.Longest.{greatest_more}
use Rattle.waff_figures.specs.Figures.{latency_of}
use Rattle.waff_figures.proofs.figures.greatest_latency.Goals as goal

pub loop-n-preserved : goal.loop-n-preserved
loop-n-preserved c =
    let one : ℕ → ℕ = latency_of (work_of c.args.plan.now.timings) (start_of c.args.plan.now.starts) in
    let n = c.loop-n.n - 1 in
    let this : n + 1 ≡ c.loop-n.n = omega arith in
    let next : n + 1 ≡ c.loop-n.n + 1 - 1 = omega arith in
    let more = greatest_more one n in
    let last : one (n + 1) ≡ c.latency.result = ap one this ∙ sym c.latency.ensures.latency in
    let step : c.max-greatest.result ≡ greatest (map one (range_with_len 1 (n + 1)))
    = omega (arith, more, last, c.max-greatest.ensures, c.loop-n.invariant) in
    step ∙ ap (λ k. greatest (map one (range_with_len 1 k))) next

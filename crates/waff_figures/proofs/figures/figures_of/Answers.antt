use Rattle.std.proofs.Common.{refl, subst}
use Rattle.waff_plan.specs.Timetable.{starts_in, work_in}
use Rattle.waff_figures.specs.Figures.{latencies_of}
use Rattle.waff_figures.specs.Percentile.{IsPercentile}
use Rattle.waff_figures.proofs.PercentileLemmas.{percentile_permuted}
use Rattle.waff_figures.proofs.figures.figures_of.Goals as goal

pub returns : goal.returns
returns c =
    let plan = c.args.planned.now.plan.now in
    let latencies = latencies_of (work_in plan) (starts_in plan) in
    let sorted = c.in_ok-sorted.sorted.items in
    record {
      p50 = percentile_permuted 50 latencies sorted c.percentile.result c.in_ok-sorted.ensures.same
          (subst (λ xs. IsPercentile 50 xs c.percentile.result) c.as_slice.ensures.value c.percentile.ensures);
      p99 = percentile_permuted 99 latencies sorted c.percentile-2.result c.in_ok-sorted.ensures.same
          (subst (λ xs. IsPercentile 99 xs c.percentile-2.result) c.as_slice-2.ensures.value c.percentile-2.ensures);
      are = rw (c.len.ensures.count, c.total.ensures.total, c.length.ensures.length, c.in_ok-least.ensures, c.number_of-workers.ensures.same, c.sum_of_waits.ensures, c.sum_of_latencies.ensures, c.greatest_latency.ensures) refl;
    }

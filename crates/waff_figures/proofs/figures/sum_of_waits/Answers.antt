use Rattle.std.proofs.Common.{◌≡◌, ℕ, ◌+◌, ◌-◌, sum_by, arith, sym, ◌∙◌, ap}
use Rattle.std.specs.List.{range_with_len}
use Rattle.waff_plan.specs.Timing.{start_of, work_of}
use Rattle.waff_plan.specs.Work.{issue_of}
use Rattle.waff_plan.proofs.Longest.{sum_more}
use Rattle.waff_figures.proofs.figures.sum_of_waits.Goals as goal

pub loop-n-preserved : goal.loop-n-preserved
loop-n-preserved c =
    let wait : ℕ → ℕ = λ m. start_of c.args.plan.now.starts m - issue_of (work_of c.args.plan.now.timings) (start_of c.args.plan.now.starts) m in
    let n = c.loop-n.n - 1 in
    let this : n + 1 ≡ c.loop-n.n = omega arith in
    let next : n + 1 ≡ c.loop-n.n + 1 - 1 = omega arith in
    let more = sum_more wait n in
    let here : wait c.loop-n.n ≡ c.from-waits.result = sym (c.from-waits.ensures ∙ c.saturating_sub.ensures
    ∙ ap (λ x. x - c.issue.result) c.start.ensures.start ∙ ap (λ x. start_of c.args.plan.now.starts c.loop-n.n - x) c.issue.ensures.issue) in
    let last : wait (n + 1) ≡ c.from-waits.result = ap wait this ∙ here in
    let step : c.loop-n.waits + c.from-waits.result ≡ sum_by wait (range_with_len 1 (n + 1)) = omega (arith, more, last, c.loop-n.invariant.sum) in
    record {
      sum = step ∙ ap (λ k. sum_by wait (range_with_len 1 k)) next;
      small = omega (arith, c.loop-n.invariant.small, c.start.ensures.printable, c.from-waits.ensures, c.saturating_sub.ensures);
    }

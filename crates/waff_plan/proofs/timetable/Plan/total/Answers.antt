use Rattle.std.proofs.Common.{◌≡◌, ◌+◌, ◌-◌, sum_by, arith, sym, ◌∙◌, ap}
use Rattle.std.specs.List.{range_with_len}
use Rattle.waff_plan.proofs.Longest.{sum_more}
use Rattle.waff_plan.proofs.timetable.Plan.total.Goals as goal
use Rattle.waff_plan.specs.Timetable.{work_in}

pub loop-n-preserved : goal.loop-n-preserved
loop-n-preserved c =
    let cost = (work_in c.args.self.now).cost in
    let n = c.loop-n.n - 1 in
    let this : n + 1 ≡ c.loop-n.n = omega arith in
    let next : n + 1 ≡ c.loop-n.n + 1 - 1 = omega arith in
    let more = sum_more cost n in
    let last : cost (n + 1) ≡ c.cost-cost.result = ap cost this ∙ sym c.cost-cost.ensures.cost in
    let step : c.loop-n.total + c.cost-cost.result ≡ sum_by cost (range_with_len 1 (n + 1)) = omega (arith, more, last, c.loop-n.invariant.sum) in
    record {
      sum = step ∙ ap (λ k. sum_by cost (range_with_len 1 k)) next;
      small = omega (arith, c.loop-n.invariant.small, c.cost-cost.ensures.small);
    }

use Rattle.std.proofs.Common.{◌≡◌, ◌+◌, ◌-◌, map, arith, sym, ◌∙◌, ap}
use Rattle.std.specs.List.{range_with_len}
use Rattle.waff_plan.specs.Work.{finish_of, greatest}
use Rattle.waff_plan.specs.Timetable.{work_in, starts_in}
use Rattle.waff_plan.proofs.Longest.{greatest_more}
use Rattle.waff_plan.proofs.timetable.Plan.length.Goals as goal

pub loop-n-preserved : goal.loop-n-preserved
loop-n-preserved c =
    let finish = finish_of (work_in c.args.self.now) (starts_in c.args.self.now) in
    let n = c.loop-n.n - 1 in
    let this : n + 1 ≡ c.loop-n.n = omega arith in
    let next : n + 1 ≡ c.loop-n.n + 1 - 1 = omega arith in
    let more = greatest_more finish n in
    let last : finish (n + 1) ≡ c.finish.result = ap finish this ∙ sym c.finish.ensures.finish in
    let step : c.max-length.result ≡ greatest (map finish (range_with_len 1 (n + 1))) = omega (arith, more, last, c.max-length.ensures, c.loop-n.invariant.greatest_is) in
    record {
      greatest_is = step ∙ ap (λ k. greatest (map finish (range_with_len 1 k))) next;
      small = omega (arith, c.max-length.ensures, c.finish.ensures.small, c.loop-n.invariant.small);
    }

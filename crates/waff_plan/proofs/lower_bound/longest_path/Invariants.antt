use Rattle.std.proofs.Common.{◌≡◌, ℕ, ◌<◌, ◌≤◌, length, get_or}
use Rattle.waff_plan.specs.LowerBound.{own_cost, path_cost}
use Rattle.waff_plan.specs.Planned.{planned_work}
use Rattle.waff_plan.specs.Peak.{IsPeak}
use Rattle.waff_plan.proofs.lower_bound.longest_path.Given as goal

abbrev pub invariant-loop-a : goal.invariant-loop-a
invariant-loop-a l = record {
  count : length l.costs.items ≡ length l.planned.case.tree.now;
  done : (p : ℕ) → p < l.a → get_or l.costs.items p 0 ≡ path_cost l.planned.case.tree.now l.planned.case.assigned.now (planned_work l.planned) p;
  rest : (p : ℕ) → l.a ≤ p → p < length l.planned.case.tree.now → get_or l.costs.items p 0 ≡ own_cost l.planned.case.assigned.now (planned_work l.planned) p;
  longest : IsPeak (path_cost l.planned.case.tree.now l.planned.case.assigned.now (planned_work l.planned)) 0 l.a l.longest;
}

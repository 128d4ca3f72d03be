use Rattle.std.proofs.Common.{◌≡◌, ◌*◌, ◌^◌, ◌≤◌, take}
use Rattle.waff_plan.specs.Chain.{chain_cost}
use Rattle.waff_plan.specs.Timetable.{work_in}
use Rattle.waff_plan.proofs.totals.cost_of.Given as goal

abbrev pub invariant-loop-message : goal.invariant-loop-message
invariant-loop-message l = record {
  sum : l.cost ≡ chain_cost (work_in l.plan) (take l.message-index l.chain);
  small : l.cost ≤ 2 ^ 32 * l.message-index;
}

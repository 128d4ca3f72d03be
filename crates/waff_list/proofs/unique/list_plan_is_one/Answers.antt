use Rattle.waff_assign.specs.Order.{IsOrdered}
use Rattle.waff_plan.proofs.Forward.{IsOrdered_forward}
use Rattle.waff_list.specs.ListRule.{IsTakenFirst}
use Rattle.waff_list.proofs.PathPlans.{plan_over_pairs}
use Rattle.waff_list.proofs.RuleLemmas.{rule_plan_is_one}
use Rattle.waff_list.proofs.Uniqueness.{list_plan_is_one, order_of_priority}
use Rattle.waff_list.proofs.unique.list_plan_is_one.Goals as goal

pub returns : goal.returns
returns c = record {
  pairs = λ tree assigned work priority other count follows runs.
      list_plan_is_one (IsOrdered tree assigned) (IsTakenFirst priority) (IsTakenFirst other) work (IsOrdered_forward tree assigned work count follows) runs
      (order_of_priority priority);
  needs = λ tree assigned needs work priority other_priority count follows runs are k start other alike plan other_plan.
      list_plan_is_one (IsOrdered tree assigned) (IsTakenFirst priority) (IsTakenFirst other_priority) work (IsOrdered_forward tree assigned work count follows) runs
      (order_of_priority priority) k start other alike
      (plan_over_pairs tree assigned needs work (IsTakenFirst priority) k start are plan)
      (plan_over_pairs tree assigned needs work (IsTakenFirst other_priority) k other are other_plan);
  rules = λ tree assigned work count follows runs.
      rule_plan_is_one (IsOrdered tree assigned) work (IsOrdered_forward tree assigned work count follows) runs;
}

use Rattle.waff_assign.specs.Order.{IsOrdered}
use Rattle.waff_order.specs.Needs.{IsNeed}
use Rattle.waff_list.specs.ListRule.{IsTakenFirst}
use Rattle.waff_list.proofs.PathPlans.{shared_plans, plan_over_pairs, plan_over_needs}
use Rattle.waff_list.proofs.unique.same_paths_have_the_same_plans.Goals as goal

pub returns : goal.returns
returns c = record {
  sets = λ needs others work priority. shared_plans (IsNeed needs) (IsNeed others) (IsTakenFirst priority) work;
  hierarchies = λ tree other_tree assigned other_assigned work priority.
      shared_plans (IsOrdered tree assigned) (IsOrdered other_tree other_assigned) (IsTakenFirst priority) work;
  needs = λ tree assigned needs work priority k start are. (
    plan_over_pairs tree assigned needs work (IsTakenFirst priority) k start are,
    plan_over_needs tree assigned needs work (IsTakenFirst priority) k start are,
  );
}

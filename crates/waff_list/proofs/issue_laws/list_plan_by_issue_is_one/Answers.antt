use Rattle.waff_list.proofs.IssuePlans.{list_plan_by_issue_is_one, plan_by_issue_is_one}
use Rattle.waff_list.proofs.issue_laws.list_plan_by_issue_is_one.Goals as goal

pub returns : goal.returns
returns c = record {
  priorities = λ tree assigned work follows runs. list_plan_by_issue_is_one tree assigned work follows runs;
  rules = plan_by_issue_is_one;
}

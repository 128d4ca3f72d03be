use Rattle.waff_list.proofs.IssuePlans.{list_plans_by_issue_are_bounded}
use Rattle.waff_list.proofs.issue_laws.list_plans_by_issue_are_bounded.Goals as goal

pub returns : goal.returns
returns c = λ tree assigned work follows. list_plans_by_issue_are_bounded tree assigned work follows

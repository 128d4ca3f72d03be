use Rattle.waff_plan.proofs.IssueOrder.{issue_is_arrival}
use Rattle.waff_plan.proofs.issue_laws.issue_is_arrival.Goals as goal

pub returns : goal.returns
returns c = issue_is_arrival

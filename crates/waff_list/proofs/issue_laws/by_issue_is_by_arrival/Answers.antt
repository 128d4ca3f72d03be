use Rattle.waff_list.proofs.IssuePlans.{by_issue_is_by_arrival}
use Rattle.waff_list.proofs.issue_laws.by_issue_is_by_arrival.Goals as goal

pub returns : goal.returns
returns c = by_issue_is_by_arrival

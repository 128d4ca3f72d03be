use Rattle.waff_plan.proofs.IssueOrder.{IsServedBefore_forward}
use Rattle.waff_plan.proofs.issue_laws.served_pairs_are_forward.Goals as goal

pub returns : goal.returns
returns c = λ tree assigned work start follows issued. IsServedBefore_forward work start issued follows tree assigned

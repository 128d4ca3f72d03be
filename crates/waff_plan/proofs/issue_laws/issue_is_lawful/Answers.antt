use Rattle.waff_plan.specs.Issues.{IsServedBefore}
use Rattle.waff_plan.proofs.IssueOrder.{IsServedBefore_forward}
use Rattle.waff_plan.proofs.Uniqueness.{lawful}
use Rattle.waff_plan.proofs.issue_laws.issue_is_lawful.Goals as goal

pub returns : goal.returns
returns c = λ tree assigned work start follows issued. lawful (IsServedBefore tree assigned work start) work (IsServedBefore_forward work start issued follows tree assigned)

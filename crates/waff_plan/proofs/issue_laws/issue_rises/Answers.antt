use Rattle.waff_plan.proofs.IssueOrder.{issue_rises}
use Rattle.waff_plan.proofs.issue_laws.issue_rises.Goals as goal

pub returns : goal.returns
returns c = λ work start follows issued. issue_rises work start issued follows

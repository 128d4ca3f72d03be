use Rattle.waff_plan.proofs.IssueOrder.{issued_not_itself, issued_on, one_is_issued_first}
use Rattle.waff_plan.proofs.issue_laws.issue_is_total.Goals as goal

pub returns : goal.returns
returns c = λ work start. record {
  not_itself = issued_not_itself work start;
  on = issued_on work start;
  one_first = one_is_issued_first work start;
}

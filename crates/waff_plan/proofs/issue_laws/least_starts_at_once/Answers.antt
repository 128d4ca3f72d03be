use Rattle.waff_plan.specs.Issues.{IsServedBefore}
use Rattle.waff_plan.proofs.Earliest.{at_once_from_least, least_from_at_once}
use Rattle.waff_plan.proofs.IssueOrder.{IsServedBefore_forward}
use Rattle.waff_plan.proofs.issue_laws.least_starts_at_once.Goals as goal

pub returns : goal.returns
returns c = λ tree assigned work start follows.
    let before = IsServedBefore tree assigned work start in (
      λ least. at_once_from_least before work start (IsServedBefore_forward work start least.obeys.issued follows tree assigned) least,
      λ all. least_from_at_once before work start (IsServedBefore_forward work start (λ m number. (all m number).issued) follows tree assigned) all,
    )

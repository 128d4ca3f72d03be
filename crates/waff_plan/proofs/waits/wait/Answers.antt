use Rattle.std.proofs.Common.{◌∙◌, ap}
use Rattle.waff_plan.specs.Links.{link_of}
use Rattle.waff_plan.proofs.waits.wait.Goals as goal

pub returns-in-Release : goal.returns-in-Release
returns-in-Release c =
    rw c.in-Release.is (c.waited_for.ensures ∙ ap (λ x. link_of x c.release.result) c.held_by.ensures
    ∙ ap (link_of _) c.release.ensures.release)

pub returns-in-Issue : goal.returns-in-Issue
returns-in-Issue c = rw c.in-Issue.is (c.waited_for-in-Issue.ensures ∙ ap (link_of c.args.latest) c.issue.ensures.issue)

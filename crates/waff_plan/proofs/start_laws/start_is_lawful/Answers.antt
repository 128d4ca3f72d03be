use Rattle.waff_plan.specs.Serving.{IsStartedBefore}
use Rattle.waff_plan.proofs.StartOrder.{IsStartedBefore_forward}
use Rattle.waff_plan.proofs.Uniqueness.{lawful}
use Rattle.waff_plan.proofs.start_laws.start_is_lawful.Goals as goal

pub returns : goal.returns
returns c = λ tree assigned work start same runs follows issued.
    lawful (IsStartedBefore tree assigned start) work (IsStartedBefore_forward tree assigned work same runs start issued follows)

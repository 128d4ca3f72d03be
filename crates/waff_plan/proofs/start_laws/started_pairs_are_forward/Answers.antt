use Rattle.waff_plan.proofs.StartOrder.{IsStartedBefore_forward}
use Rattle.waff_plan.proofs.start_laws.started_pairs_are_forward.Goals as goal

pub returns : goal.returns
returns c = λ tree assigned work start same runs follows issued. IsStartedBefore_forward tree assigned work same runs start issued follows

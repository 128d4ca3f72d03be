use Rattle.waff_plan.proofs.StartOrder.{served_starts}
use Rattle.waff_plan.proofs.start_laws.served_is_started.Goals as goal

pub returns : goal.returns
returns c = λ tree assigned work start same runs obeys. served_starts tree assigned work same runs start obeys

use Rattle.waff_plan.proofs.StartOrder.{served_apart}
use Rattle.waff_plan.proofs.start_laws.served_plans_are_apart.Goals as goal

pub returns : goal.returns
returns c = λ tree assigned work start same runs obeys. served_apart tree assigned work same runs start obeys

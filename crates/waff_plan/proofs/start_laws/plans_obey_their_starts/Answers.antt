use Rattle.waff_plan.proofs.StartOrder.{apart_obeys}
use Rattle.waff_plan.proofs.start_laws.plans_obey_their_starts.Goals as goal

pub returns : goal.returns
returns c = λ tree assigned work start same runs obeys. apart_obeys tree assigned work same runs start obeys

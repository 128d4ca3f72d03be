use Rattle.waff_plan.proofs.StartOrder.{serving_obeys}
use Rattle.waff_plan.proofs.start_laws.serving_plans_obey.Goals as goal

pub returns : goal.returns
returns c = λ tree assigned work start other same runs serves. serving_obeys tree assigned work same runs start other serves

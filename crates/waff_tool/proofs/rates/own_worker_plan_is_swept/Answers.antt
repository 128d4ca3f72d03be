use Rattle.waff_tool.proofs.RateLaws.{own_worker_plan_is_swept}
use Rattle.waff_tool.proofs.rates.own_worker_plan_is_swept.Goals as goal

pub returns : goal.returns
returns c = record { equal = own_worker_plan_is_swept }

use Rattle.waff_tool.proofs.RateLaws.{own_plan_is_swept}
use Rattle.waff_tool.proofs.rates.own_plan_is_swept.Goals as goal

pub returns : goal.returns
returns c = record { equal = own_plan_is_swept }

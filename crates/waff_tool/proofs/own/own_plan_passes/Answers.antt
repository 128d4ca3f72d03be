use Rattle.waff_tool.proofs.OwnPlanLaws.{own_plan_passes}
use Rattle.waff_tool.proofs.own.own_plan_passes.Goals as goal

pub returns : goal.returns
returns c = record { passes = own_plan_passes }

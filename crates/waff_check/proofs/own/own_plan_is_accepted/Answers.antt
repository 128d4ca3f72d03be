use Rattle.waff_check.proofs.OwnLaws.{own_plan_is_accepted}
use Rattle.waff_check.proofs.own.own_plan_is_accepted.Goals as goal

pub returns : goal.returns
returns c = record { verdict = own_plan_is_accepted }

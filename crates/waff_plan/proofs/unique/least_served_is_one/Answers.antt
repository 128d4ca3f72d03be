use Rattle.waff_plan.proofs.ServingLemmas.{least_served_is_one}
use Rattle.waff_plan.proofs.unique.least_served_is_one.Goals as goal

pub returns : goal.returns
returns c = record { same = least_served_is_one }

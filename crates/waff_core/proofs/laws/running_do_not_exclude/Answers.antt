use Rattle.waff_core.proofs.Arrival.{running_do_not_exclude}
use Rattle.waff_core.proofs.laws.running_do_not_exclude.Goals as goal

pub returns : goal.returns
returns c = running_do_not_exclude

use Rattle.waff_limits.proofs.WhyOrder.{are_told}
use Rattle.waff_limits.proofs.lifted_laws.lifts_add_up.Goals as goal

pub returns : goal.returns
returns c = are_told

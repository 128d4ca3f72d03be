use Rattle.waff_limits.proofs.LimitLaws.{no_lists_add_nothing}
use Rattle.waff_limits.proofs.laws.no_lists_add_nothing.Goals as goal

pub returns : goal.returns
returns c = no_lists_add_nothing

use Rattle.waff_core.proofs.Determined.{never_both}
use Rattle.waff_core.proofs.laws.never_both.Goals as goal

pub returns : goal.returns
returns c = never_both

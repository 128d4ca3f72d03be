use Rattle.waff_line.proofs.GoingOn.{never_stuck}
use Rattle.waff_line.proofs.laws.never_stuck.Goals as goal

pub returns : goal.returns
returns c = never_stuck

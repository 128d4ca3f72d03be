use Rattle.waff_locks.proofs.OneText.{figures_are_one}
use Rattle.waff_locks.proofs.laws.figures_are_one.Goals as goal

pub returns : goal.returns
returns c = record { equal = figures_are_one }

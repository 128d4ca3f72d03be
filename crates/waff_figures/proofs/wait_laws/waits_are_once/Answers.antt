use Rattle.waff_figures.proofs.WaitSums.{waits_are_once}
use Rattle.waff_figures.proofs.wait_laws.waits_are_once.Goals as goal

pub returns : goal.returns
returns c = record { once = waits_are_once }

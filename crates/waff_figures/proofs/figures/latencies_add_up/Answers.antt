use Rattle.waff_figures.proofs.FigureLaws.{latencies_add_up}
use Rattle.waff_figures.proofs.figures.latencies_add_up.Goals as goal

pub returns : goal.returns
returns c = record { sum = latencies_add_up }

use Rattle.waff_figures.proofs.FigureLaws.{figures_are_one}
use Rattle.waff_figures.proofs.figures.figures_are_one.Goals as goal

pub returns : goal.returns
returns c = record { equal = figures_are_one }

use Rattle.waff_figures.proofs.AddingUp.{chain_adds_up}
use Rattle.waff_figures.proofs.laws.chain_adds_up.Goals as goal

pub returns : goal.returns
returns c = chain_adds_up

use Rattle.waff_figures.proofs.AddingUp.{messages_add_up}
use Rattle.waff_figures.proofs.laws.messages_add_up.Goals as goal

pub returns : goal.returns
returns c = messages_add_up

use Rattle.waff_figures.proofs.WaitUnique.{rows_are_one}
use Rattle.waff_figures.proofs.wait_laws.rows_are_one.Goals as goal

pub returns : goal.returns
returns c = record { equal = rows_are_one }

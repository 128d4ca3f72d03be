use Rattle.waff_line.proofs.Obeying.{running_exclude_nobody}
use Rattle.waff_line.proofs.laws.running_exclude_nobody.Goals as goal

pub returns : goal.returns
returns c = running_exclude_nobody

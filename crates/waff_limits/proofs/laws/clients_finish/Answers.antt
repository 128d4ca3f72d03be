use Rattle.waff_limits.proofs.LimitLaws.{clients_finish}
use Rattle.waff_limits.proofs.laws.clients_finish.Goals as goal

pub returns : goal.returns
returns c = clients_finish

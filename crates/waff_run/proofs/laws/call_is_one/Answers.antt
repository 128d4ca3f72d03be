use Rattle.waff_run.proofs.Ones.{call_one}
use Rattle.waff_run.proofs.laws.call_is_one.Goals as goal

pub returns : goal.returns
returns c = λ placing ops from. call_one placing ops from

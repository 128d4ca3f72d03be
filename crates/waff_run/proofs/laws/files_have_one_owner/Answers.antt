use Rattle.waff_run.proofs.Lying.{one_owner}
use Rattle.waff_run.proofs.laws.files_have_one_owner.Goals as goal

pub returns : goal.returns
returns c = λ layout bytes. one_owner layout bytes

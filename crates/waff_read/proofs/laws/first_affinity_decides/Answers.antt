use Rattle.waff_read.proofs.AffinityLaws.{first_affinity_decides}
use Rattle.waff_read.proofs.laws.first_affinity_decides.Goals as goal

pub returns : goal.returns
returns c = λ rows. first_affinity_decides rows

use Rattle.waff_run.proofs.Lying.{places_found}
use Rattle.waff_run.proofs.laws.places_are_found.Goals as goal

pub returns : goal.returns
returns c = λ layout bytes. places_found layout bytes

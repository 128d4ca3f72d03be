use Rattle.waff_model.proofs.ParcelLemmas.{same_offset}
use Rattle.waff_model.proofs.laws.offsets_are_apart.Goals as goal

pub returns : goal.returns
returns c = λ spaces. same_offset spaces

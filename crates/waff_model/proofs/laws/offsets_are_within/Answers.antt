use Rattle.waff_model.proofs.ParcelLemmas.{offset_within}
use Rattle.waff_model.proofs.laws.offsets_are_within.Goals as goal

pub returns : goal.returns
returns c = λ spaces. offset_within spaces

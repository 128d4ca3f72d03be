use Rattle.waff_model.proofs.ParcelLemmas.{offset_filled}
use Rattle.waff_model.proofs.laws.offsets_are_filled.Goals as goal

pub returns : goal.returns
returns c = λ spaces. offset_filled spaces

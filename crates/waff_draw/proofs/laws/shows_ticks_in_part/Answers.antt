use Rattle.waff_draw.proofs.PartLemmas.{shows_ticks_in_part}
use Rattle.waff_draw.proofs.laws.shows_ticks_in_part.Goals as goal

pub returns : goal.returns
returns c = shows_ticks_in_part

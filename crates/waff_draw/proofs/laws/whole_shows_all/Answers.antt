use Rattle.waff_draw.proofs.PartLemmas.{whole_shows_all}
use Rattle.waff_draw.proofs.laws.whole_shows_all.Goals as goal

pub returns : goal.returns
returns c = whole_shows_all

use Rattle.waff_figures.proofs.PartLemmas.{parts_are_one}
use Rattle.waff_figures.proofs.part_laws.parts_are_one.Goals as goal

pub returns : goal.returns
returns c = λ work columns belongs keys start other one another follows same p q.
    parts_are_one work follows start other same columns belongs keys one another p q

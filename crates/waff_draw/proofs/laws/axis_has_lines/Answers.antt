use Rattle.waff_draw.proofs.PartLemmas.{axis_has_lines}
use Rattle.waff_draw.proofs.laws.axis_has_lines.Goals as goal

pub returns : goal.returns
returns c = axis_has_lines

use Rattle.waff_explain.proofs.LineLaws.{lines_are_one}
use Rattle.waff_explain.proofs.words.lines_are_one.Goals as goal

pub returns : goal.returns
returns c = lines_are_one

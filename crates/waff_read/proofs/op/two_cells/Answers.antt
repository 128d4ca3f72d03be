-- The words are the one before the first space and the text after it.
use Rattle.std.proofs.Common.{◌∙◌}
use Rattle.waff_read.proofs.PartLemmas.{two_cells}
use Rattle.waff_read.proofs.op.two_cells.Goals as goal

pub returns-in-Some : goal.returns-in-Some
returns-in-Some c =
    c.pair.ensures ∙ (rw (c.read_cell.ensures, c.read_cell-in-Some.ensures) (two_cells c.args.spaces.now c.args.words.now c.cut.result.0.now c.in-Some.other.now (rw c.in-Some.is at c.cut.ensures)))

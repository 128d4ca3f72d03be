-- A cell is the name before the first `:` and the index after it.
use Rattle.std.proofs.Common.{◌∙◌, sym}
use Rattle.waff_read.proofs.PartLemmas.{cell_of_two}
use Rattle.waff_read.proofs.op.read_cell.Goals as goal

pub returns-in-Some : goal.returns-in-Some
returns-in-Some c =
    c.named_cell.ensures ∙ sym (cell_of_two c.args.spaces.now c.args.text.now c.cut.result.0.now c.in-Some.index.now (rw c.in-Some.is at c.cut.ensures))

-- The message of that number is one.
use Rattle.std.proofs.Common.{sym, ◌∙◌, subst}
use Rattle.std.proofs.lemmas.Option.{same_Some}
use Rattle.waff_model.specs.Cells.{cells_of}
use Rattle.waff_model.specs.declared.message.Message.{Message}
use Rattle.waff_assign.specs.Lowest.{IsInFootprint, IsLowest}
use Rattle.waff_assign.proofs.Assignments.{cells_of_layout}
use Rattle.waff_assign.proofs.assignment.lowest_of_message.Goals as goal

pub lowest_of_ops-requires-clause-cells : goal.lowest_of_ops-requires-clause-cells
lowest_of_ops-requires-clause-cells c =
    cells_of_layout c.args.trace.now.sizes c.args.layout.now.spaces (cells_of c.message.result.now.ops) c.requires.fits c.message.ensures.within.cells

pub returns-clause-lowest : goal.returns-clause-lowest
returns-clause-lowest c = λ message at.
    subst (λ (m : Message). IsLowest c.args.layout.now (IsInFootprint m.ops) c.lowest_of_ops.result.0)
    (same_Some c.message.result.now message (sym c.message.ensures.message ∙ at)) c.lowest_of_ops.ensures.lowest

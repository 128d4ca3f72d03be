use Rattle.waff_model.proofs.OwnerLemmas.{space_below}
use Rattle.waff_limits.proofs.cell_text.push_cell.Goals as goal

pub push_cell-requires : goal.push_cell-requires
push_cell-requires c = space_below c.args.layout.now.spaces c.args.cell.space c.args.cell.index c.requires

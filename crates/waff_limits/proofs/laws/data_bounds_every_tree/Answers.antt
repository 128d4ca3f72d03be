use Rattle.waff_limits.proofs.DataLaws.{data_bounds}
use Rattle.waff_limits.proofs.laws.data_bounds_every_tree.Goals as goal

pub returns : goal.returns
returns c = data_bounds

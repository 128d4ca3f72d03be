use Rattle.waff_tool.proofs.RateLaws.{rated_is_checked}
use Rattle.waff_tool.proofs.rates.rated_is_checked.Goals as goal

pub returns : goal.returns
returns c = record { equal = rated_is_checked }

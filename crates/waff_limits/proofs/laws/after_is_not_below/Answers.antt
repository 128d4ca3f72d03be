use Rattle.waff_limits.proofs.AfterLaws.{after_is_not_below}
use Rattle.waff_limits.proofs.laws.after_is_not_below.Goals as goal

pub returns : goal.returns
returns c = after_is_not_below

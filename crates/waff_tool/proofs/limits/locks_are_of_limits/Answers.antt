use Rattle.waff_tool.proofs.LocksTexts.{locks_are_of_limits}
use Rattle.waff_tool.proofs.limits.locks_are_of_limits.Goals as goal

pub returns : goal.returns
returns c = locks_are_of_limits

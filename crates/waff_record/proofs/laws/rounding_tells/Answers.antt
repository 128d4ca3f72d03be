use Rattle.waff_record.proofs.Telling.{rounding_tells}
use Rattle.waff_record.proofs.laws.rounding_tells.Goals as goal

pub returns : goal.returns
returns c = λ course ticks tick turns. rounding_tells course ticks tick turns

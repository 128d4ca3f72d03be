use Rattle.waff_record.proofs.Unique.{rounding_is_one}
use Rattle.waff_record.proofs.laws.rounding_is_one.Goals as goal

pub returns : goal.returns
returns c = λ course ticks tick turns. rounding_is_one course ticks tick turns

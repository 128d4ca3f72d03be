use Rattle.waff_answer.proofs.OneAnswer.{answer_is_one}
use Rattle.waff_answer.proofs.unique.answer_is_one.Goals as goal

pub returns : goal.returns
returns c = record { equal = answer_is_one }

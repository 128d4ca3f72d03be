use Rattle.waff_answer.proofs.OneRefusal.{asked_refusal_is_one}
use Rattle.waff_answer.proofs.unique.asked_refusal_is_one.Goals as goal

pub returns : goal.returns
returns c = record { equal = asked_refusal_is_one }

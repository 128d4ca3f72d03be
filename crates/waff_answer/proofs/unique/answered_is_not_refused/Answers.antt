use Rattle.waff_answer.proofs.OneRefusal.{answered_is_not_refused}
use Rattle.waff_answer.proofs.unique.answered_is_not_refused.Goals as goal

pub returns : goal.returns
returns c = record { none = answered_is_not_refused }

use Rattle.waff_locks.proofs.OneText.{text_is_one}
use Rattle.waff_locks.proofs.laws.locks_text_is_one.Goals as goal

pub returns : goal.returns
returns c = record { equal = text_is_one }

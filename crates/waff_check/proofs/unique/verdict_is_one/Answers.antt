use Rattle.waff_check.proofs.Uniqueness.{verdict_is_one}
use Rattle.waff_check.proofs.unique.verdict_is_one.Goals as goal

pub returns : goal.returns
returns c = record { equal = verdict_is_one }

use Rattle.waff_cli.proofs.OneAsked.{asked_is_one}
use Rattle.waff_cli.proofs.unique.asked_is_one.Goals as goal

pub returns : goal.returns
returns c = record { equal = asked_is_one }

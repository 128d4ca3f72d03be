use Rattle.waff_tool.proofs.CheckRefusals.{check_refusal_is_one}
use Rattle.waff_tool.proofs.unique.check_refusal_is_one.Goals as goal

pub returns : goal.returns
returns c = record { equal = check_refusal_is_one }

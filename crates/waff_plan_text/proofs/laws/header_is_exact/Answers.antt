use Rattle.waff_plan_text.proofs.HeaderLaws.{header_is_exact}
use Rattle.waff_plan_text.proofs.laws.header_is_exact.Goals as goal

pub returns : goal.returns
returns c = record { exact = header_is_exact }

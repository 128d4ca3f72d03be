use Rattle.waff_plan_text.proofs.ExactLaws.{plan_is_exact}
use Rattle.waff_plan_text.proofs.laws.plan_is_exact.Goals as goal

pub returns : goal.returns
returns c = record { exact = plan_is_exact }

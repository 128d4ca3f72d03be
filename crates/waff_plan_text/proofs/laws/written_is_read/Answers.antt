use Rattle.waff_plan_text.proofs.WrittenPlans.{written_is_read}
use Rattle.waff_plan_text.proofs.laws.written_is_read.Goals as goal

pub returns : goal.returns
returns c = record { read = written_is_read }

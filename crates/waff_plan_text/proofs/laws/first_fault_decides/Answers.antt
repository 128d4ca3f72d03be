use Rattle.waff_plan_text.proofs.FaultLaws.{first_fault_decides}
use Rattle.waff_plan_text.proofs.laws.first_fault_decides.Goals as goal

pub returns : goal.returns
returns c = record { decides = first_fault_decides }

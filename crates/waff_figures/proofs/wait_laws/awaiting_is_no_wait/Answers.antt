use Rattle.waff_plan.specs.Serving.{started_before}
use Rattle.waff_figures.proofs.WaitSums.{awaiting_is_no_wait}
use Rattle.waff_figures.proofs.wait_laws.awaiting_is_no_wait.Goals as goal

pub returns : goal.returns
returns c = λ version tree assigned work start. awaiting_is_no_wait tree assigned (started_before version tree assigned start) work start

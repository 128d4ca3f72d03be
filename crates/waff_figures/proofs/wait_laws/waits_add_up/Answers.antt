use Rattle.waff_plan.specs.Serving.{started_before}
use Rattle.waff_figures.proofs.WaitSums.{waits_add_up}
use Rattle.waff_figures.proofs.wait_laws.waits_add_up.Goals as goal

pub returns : goal.returns
returns c = λ version tree assigned work start. waits_add_up tree assigned (started_before version tree assigned start) work start

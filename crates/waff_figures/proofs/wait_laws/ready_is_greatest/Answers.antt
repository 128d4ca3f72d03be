use Rattle.waff_plan.specs.Serving.{started_before}
use Rattle.waff_figures.proofs.WaitSums.{ready_is_greatest}
use Rattle.waff_figures.proofs.wait_laws.ready_is_greatest.Goals as goal

pub returns : goal.returns
returns c = λ version tree assigned work start. ready_is_greatest (started_before version tree assigned start) work start

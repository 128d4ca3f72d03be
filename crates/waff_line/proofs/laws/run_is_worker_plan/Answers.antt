use Rattle.waff_line.proofs.Workers.{run_is_worker_plan}
use Rattle.waff_line.proofs.laws.run_is_worker_plan.Goals as goal

pub returns : goal.returns
returns c = run_is_worker_plan

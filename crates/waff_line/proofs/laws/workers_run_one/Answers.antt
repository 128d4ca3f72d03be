use Rattle.waff_line.proofs.Workers.{one_after_another, workers_are_own, workers_are_there}
use Rattle.waff_line.proofs.laws.workers_run_one.Goals as goal

pub returns-clause-there : goal.returns-clause-there
returns-clause-there c = workers_are_there

pub returns-clause-own : goal.returns-clause-own
returns-clause-own c = workers_are_own

pub returns-clause-after : goal.returns-clause-after
returns-clause-after c = one_after_another

use Rattle.waff_line.proofs.Obeying.{each_has_run, run_obeys}
use Rattle.waff_line.proofs.laws.run_obeys.Goals as goal

pub returns-clause-obeys : goal.returns-clause-obeys
returns-clause-obeys c = run_obeys

pub returns-clause-runs : goal.returns-clause-runs
returns-clause-runs c = each_has_run

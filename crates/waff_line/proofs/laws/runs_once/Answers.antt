use Rattle.waff_line.proofs.Counting.{runs_each_once, runs_once}
use Rattle.waff_line.proofs.laws.runs_once.Goals as goal

pub returns-clause-once : goal.returns-clause-once
returns-clause-once c = runs_once

pub returns-clause-each : goal.returns-clause-each
returns-clause-each c = runs_each_once

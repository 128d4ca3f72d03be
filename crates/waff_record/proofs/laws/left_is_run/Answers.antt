use Rattle.waff_record.proofs.LeftRuns.{left_is_run}
use Rattle.waff_record.proofs.laws.left_is_run.Goals as goal

pub returns : goal.returns
returns c = left_is_run

use Rattle.waff_cli.proofs.OneRun.{run_is_one}
use Rattle.waff_cli.proofs.unique.run_is_one.Goals as goal

pub returns : goal.returns
returns c = record { equal = run_is_one }

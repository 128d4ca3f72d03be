use Rattle.waff_limits.proofs.WhyOrder.{rows_are_one}
use Rattle.waff_limits.proofs.lifted_laws.rows_are_one.Goals as goal

pub returns : goal.returns
returns c = record { equal = rows_are_one }

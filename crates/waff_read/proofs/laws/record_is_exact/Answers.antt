use Rattle.waff_read.proofs.ExactLaws.{record_is_exact}
use Rattle.waff_read.proofs.laws.record_is_exact.Goals as goal

pub returns : goal.returns
returns c = λ version spaces place row. record_is_exact version spaces place row

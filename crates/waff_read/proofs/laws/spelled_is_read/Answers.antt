use Rattle.waff_read.proofs.SpellingLaws.{spelled_is_read}
use Rattle.waff_read.proofs.laws.spelled_is_read.Goals as goal

pub returns : goal.returns
returns c = λ layout version place message. spelled_is_read layout version place message

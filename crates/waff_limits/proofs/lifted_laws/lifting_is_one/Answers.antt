use Rattle.std.proofs.Common.{Contains}
use Rattle.waff_limits.proofs.LiftLemmas.{lifting_is_one}
use Rattle.waff_limits.proofs.lifted_laws.lifting_is_one.Goals as goal

pub returns : goal.returns
returns c = record { equal = λ layout cells. lifting_is_one layout (Contains cells) }

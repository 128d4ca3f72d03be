use Rattle.std.proofs.Common.{refl}
use Rattle.waff_figures.proofs.worst_text.header.Goals as goal

pub returns-then-locks : goal.returns-then-locks
returns-then-locks c = rw c.if-locks.true refl

pub returns-else-locks : goal.returns-else-locks
returns-else-locks c = rw c.if-locks.false refl

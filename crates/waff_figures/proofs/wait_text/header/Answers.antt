use Rattle.std.proofs.Common.{refl}
use Rattle.waff_figures.proofs.wait_text.header.Goals as goal

pub returns-in-Name-true : goal.returns-in-Name-true
returns-in-Name-true c = rw (c.in-Name-true.is-0, c.in-Name-true.is-1) refl

pub returns-in-Name-false : goal.returns-in-Name-false
returns-in-Name-false c = rw (c.in-Name-false.is-0, c.in-Name-false.is-1) refl

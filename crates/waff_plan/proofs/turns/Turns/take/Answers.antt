use Rattle.waff_plan.proofs.TurnLemmas.{take_numbered}
use Rattle.waff_plan.proofs.turns.Turns.take.Goals as goal

pub returns-then-number-end-clause-taken : goal.returns-then-number-end-clause-taken
returns-then-number-end-clause-taken c = rw c.in-Numbers.is (take_numbered c.in-Numbers.next c.in-Numbers.end c.if-number-end.true)

use Rattle.std.proofs.Common.{arith, inl, inr}
use Rattle.waff_plan.proofs.DueLemmas.{due_by}
use Rattle.waff_plan.proofs.due.Due.pop_by.Goals as goal

pub returns : goal.returns
returns c = elim c.next.ensures.one [
  | inl never ↦ absurd (omega (arith, c.requires))
  | inr one ↦ due_by c.args.self.now c.pop.new.self c.pop.result c.next.result one.0 c.args.now c.if-now-next.false one.1 c.pop.ensures
]

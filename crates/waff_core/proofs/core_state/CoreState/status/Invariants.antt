use Rattle.waff_core.proofs.StatusLemmas.{HaveNot}
use Rattle.waff_core.proofs.core_state.CoreState.status.Given as goal

abbrev pub invariant-loop-at : goal.invariant-loop-at
invariant-loop-at l = HaveNot l.self-inside.machine.phases.items l.n l.at

use Rattle.waff_plan.proofs.LockNeedLemmas.{AreNoted}
use Rattle.waff_plan.proofs.lock_bound.note_uses.Given as goal

abbrev pub invariant-loop-p : goal.invariant-loop-p
invariant-loop-p l = AreNoted l.in_root l.cost l.uses l.initial.needs.items l.p l.needs.items

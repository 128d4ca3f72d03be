use Rattle.std.proofs.Common.{drop}
use Rattle.waff_plan.specs.Work.{IsAwaited, gap_after}
use Rattle.waff_list.specs.Tails.{AreRaised}
use Rattle.waff_list.proofs.tails.raise_awaited.Given as goal

abbrev pub invariant-loop-k : goal.invariant-loop-k
invariant-loop-k l = AreRaised l.initial.tails (IsAwaited (drop l.k l.after)) (λ m. gap_after m (drop l.k l.after)) l.tail l.tails

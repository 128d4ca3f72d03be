use Rattle.std.proofs.Common.{All, Contains, take}
use Rattle.waff_locks.specs.Steps.{ComesBefore}
use Rattle.waff_locks.proofs.steps.first_of.Given as goal

abbrev pub invariant-loop-i : goal.invariant-loop-i
invariant-loop-i l = record {
  among : Contains l.tried l.first;
  first : All (λ other. ¬ ComesBefore other l.first) (take l.i l.tried);
}

use Rattle.std.proofs.Common.{◌≡◌, ◌+◌, ◌-◌, length}
use Rattle.waff_assign.specs.Parts.{AreHeldBehind}
use Rattle.waff_assign.proofs.gathering.gather.Given as goal

abbrev pub invariant-loop-n : goal.invariant-loop-n
invariant-loop-n l = record {
  count : l.before + length l.gathered ≡ l.n - 1;
  each : AreHeldBehind l.layout l.locks l.trace.messages l.before l.gathered;
}

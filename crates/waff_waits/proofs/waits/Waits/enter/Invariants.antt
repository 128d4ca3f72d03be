use Rattle.std.proofs.Common.{take}
use Rattle.waff_waits.specs.Waits.{Enters}
use Rattle.waff_waits.proofs.waits.Waits.enter.Given as goal

abbrev pub invariant-loop-at : goal.invariant-loop-at
invariant-loop-at l = record {
  enters : Enters l.initial.self l.m (take l.at l.needs) l.self;
}

use Rattle.std.proofs.Common.{take}
use Rattle.waff_core.specs.Machine.{Runs, opening}
use Rattle.waff_core.specs.Shown.{Fits, core_in}
use Rattle.waff_core.proofs.Pace.{IsPaced}
use Rattle.waff_core.proofs.run.run.Given as goal

abbrev pub invariant-loop-at : goal.invariant-loop-at
invariant-loop-at l = record {
  fits : Fits l.job l.machine;
  runs : Runs l.job (opening l.seats) (take l.at l.events) (core_in l.machine);
  paced : IsPaced l.at (core_in l.machine);
}

use Rattle.waff_plan.specs.Timing.{start_of, work_of}
use Rattle.waff_check.specs.Faults.{StartsEarly}
use Rattle.waff_check.proofs.FirstLaws.{NoneBelow}
use Rattle.waff_check.proofs.told.early_start.Given as goal

abbrev pub invariant-loop-n : goal.invariant-loop-n
invariant-loop-n l = NoneBelow (StartsEarly (work_of l.plan.timings) (start_of l.plan.starts)) l.n

use Rattle.waff_plan.specs.Timing.{client_work_of, start_of}
use Rattle.waff_check.specs.Faults.{StartsUnissued}
use Rattle.waff_check.proofs.FirstLaws.{NoneBelow}
use Rattle.waff_check.proofs.told.unissued_start.Given as goal

abbrev pub invariant-loop-n : goal.invariant-loop-n
invariant-loop-n l = NoneBelow (StartsUnissued (client_work_of l.plan.timings) (start_of l.plan.starts)) l.n

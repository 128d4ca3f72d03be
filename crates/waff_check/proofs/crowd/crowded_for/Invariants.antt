use Rattle.waff_plan.specs.Timing.{start_of, work_of}
use Rattle.waff_check.proofs.CrowdLaws.{Found}
use Rattle.waff_check.proofs.crowd.crowded_for.Given as goal

abbrev pub invariant-loop-n : goal.invariant-loop-n
invariant-loop-n l = Found (work_of l.plan.timings) (start_of l.plan.starts) l.k l.n l.first

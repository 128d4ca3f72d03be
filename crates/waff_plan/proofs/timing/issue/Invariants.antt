use Rattle.std.proofs.Common.{◌≡◌, drop}
use Rattle.waff_plan.specs.Timing.{start_of, work_of}
use Rattle.waff_plan.specs.Work.{finish_of, issue_after}
use Rattle.waff_plan.proofs.timing.issue.Given as goal

-- the issue by those that stand behind
abbrev pub invariant-loop-k : goal.invariant-loop-k
invariant-loop-k l = record {
  issue : l.issue ≡ issue_after (finish_of (work_of l.timings) (start_of l.starts)) l.timing.floor (drop l.k l.after);
}

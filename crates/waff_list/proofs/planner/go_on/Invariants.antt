use Rattle.std.proofs.Common.{◌≡◌}
use Rattle.waff_plan.specs.Timing.{start_of, work_of}
use Rattle.waff_list.specs.Planning.{AreIssuing, IsPlanned}
use Rattle.waff_list.specs.Telling.{basis_of}
use Rattle.waff_list.proofs.IssueEvents.{IsInTime, steps_after}
use Rattle.waff_list.proofs.planner.go_on.Given as goal

abbrev pub invariant-loop-started : goal.invariant-loop-started
invariant-loop-started l = record {
  basis : basis_of l.waiting.service ≡ basis_of l.initial.waiting.service;
  begun : IsPlanned l.task (basis_of l.waiting.service) l.progress l.now 1 l.now;
  kept : AreIssuing l.task l.progress l.waiting l.progress.issues l.now;
  time : IsInTime (work_of l.task.timings.items) (start_of l.progress.starts.items) l.now;
}

abbrev pub decreases-loop-started : goal.decreases-loop-started
decreases-loop-started l = steps_after (work_of l.task.timings.items) (start_of l.progress.starts.items) l.now

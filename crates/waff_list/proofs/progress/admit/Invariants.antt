use Rattle.std.proofs.Common.{◌≡◌, ℕ, ◌++◌, List, All, length, map}
use Rattle.std.specs.List.Sorted.{IsPermutation}
use Rattle.waff_plan.specs.Timing.{start_of, work_of}
use Rattle.waff_plan.specs.Work.{issue_of}
use Rattle.waff_waits.specs.Times.{AreEach}
use Rattle.waff_waits.specs.Waits.{IsFree, waiting_for}
use Rattle.waff_waits.proofs.LettingGo.{IsGoing}
use Rattle.waff_list.proofs.progress.admit.Given as goal

abbrev pub invariant-loop-next : goal.invariant-loop-next
invariant-loop-next l = record {
  rest : List ℕ;
  going : IsGoing l.initial.awaits l.m rest l.awaits;
  opened : List (ℕ × ℕ);
  each : AreEach (IsFree (waiting_for l.initial.awaits l.m) l.awaits) (map (λ (r : ℕ × ℕ). r.1) opened);
  ticks : All (λ (r : ℕ × ℕ). issue_of (work_of l.task.timings.items) (start_of l.starts) r.1 ≡ r.0) opened;
  issues : IsPermutation (opened ++ l.initial.issues) l.issues;
}

abbrev pub decreases-loop-next : goal.decreases-loop-next
decreases-loop-next l = length (waiting_for l.awaits l.m)

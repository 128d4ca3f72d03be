use Rattle.std.proofs.Common.{ℕ, ◌-◌, ◌≤◌, length, map}
use Rattle.std.specs.Vec.{vec_capacity}
use Rattle.std.specs.declared.cmp.Reverse.{Reverse}
use Rattle.waff_plan.specs.Timing.{work_of}
use Rattle.waff_plan.proofs.IssueFirst.{AreFirstUpTo}
use Rattle.waff_plan.proofs.awaiting.first_issues.Given as goal

abbrev pub invariant-loop-m : goal.invariant-loop-m
invariant-loop-m l = record {
  few : length l.issues.items ≤ l.m - 1;
  room : length l.timings ≤ vec_capacity l.issues;
  first : AreFirstUpTo (work_of l.timings) (l.m - 1) (map (λ (r : Reverse (ℕ × ℕ)). r.0) l.issues.items);
}

use Rattle.std.proofs.Common.{◌≡◌, ℕ, ◌-◌, ◌^◌, ◌≤◌, max, drop, get_or}
use Rattle.waff_plan.specs.Work.{issue_after}
use Rattle.waff_plan.proofs.lower_bound.issue_behind.Given as goal

-- the issue by those that stand behind
abbrev pub invariant-loop-k : goal.invariant-loop-k
invariant-loop-k l = record {
  issue : l.issue ≡ issue_after (λ (i : ℕ). get_or l.finishes (i - 1) 0) l.fn.floor (drop l.k l.after);
  early : l.issue ≤ max l.fn.floor (2 ^ 47);
}

use Rattle.std.proofs.Common.{◌≡◌, ◌*◌, drop}
use Rattle.waff_plan.specs.Work.{issue_after}
use Rattle.waff_line.specs.Machine.{finish_in}
use Rattle.waff_line.specs.Scaled.{awaits_scaled}
use Rattle.waff_line.proofs.queue.issue.Given as goal

-- the issue by those that stand behind
abbrev pub invariant-loop-k : goal.invariant-loop-k
invariant-loop-k l = l.issue ≡ issue_after (finish_in l.notes.0) (l.timing.floor * l.tick) (awaits_scaled l.tick (drop l.k l.after))

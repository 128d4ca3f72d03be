use Rattle.std.proofs.Common.{◌≡◌, ℕ, ◌<◌, true}
use Rattle.waff_assign.specs.Order.{IsOrdered}
use Rattle.waff_core.specs.Shown.{marked}
use Rattle.waff_core.proofs.steps.Machine.blocking.Given as goal

abbrev pub invariant-loop-i : goal.invariant-loop-i
invariant-loop-i l =
    (j : ℕ) → j < l.i → IsOrdered l.job.layout.tree l.job.assigned j l.m → marked l.self.done.items j ≡ true

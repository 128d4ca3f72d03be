use Rattle.std.proofs.Common.{ℕ, ◌+◌, ◌<◌}
use Rattle.waff_plan.specs.Timing.{start_of, work_of}
use Rattle.waff_check.specs.Shifts.{Follows, shift_at}
use Rattle.waff_check.proofs.shifts.are_apart.Given as goal

abbrev pub invariant-loop-index : goal.invariant-loop-index
invariant-loop-index l = (i : ℕ) → i + 1 < l.index → Follows (work_of l.plan.timings) (start_of l.plan.starts) (shift_at l.shifts i) (shift_at l.shifts (i + 1))

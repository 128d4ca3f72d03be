use Rattle.std.proofs.Common.{◌≡◌, ℕ, ◌-◌, ◌*◌, ◌^◌, ◌<◌, ◌≤◌, length, get_or}
use Rattle.waff_plan.specs.LockNeeds.{IsLockNeed, no_need}
use Rattle.waff_plan.specs.Timetable.{work_in}
use Rattle.waff_plan.proofs.lock_bound.lock_needs.Given as goal

abbrev pub invariant-loop-n : goal.invariant-loop-n
invariant-loop-n l = record {
  count : length l.needs.items ≡ l.count;
  each : (lock : ℕ) → lock < l.count → IsLockNeed l.case.assigned.now (work_in l.plan) (l.n - 1) lock (get_or l.needs.items lock no_need);
  small : (lock : ℕ) → lock < l.count → (get_or l.needs.items lock no_need).kept ≤ 2 ^ 32 * (l.n - 1);
}

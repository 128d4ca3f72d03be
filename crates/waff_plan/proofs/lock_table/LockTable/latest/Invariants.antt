use Rattle.std.proofs.Common.{ℕ, List, take}
use Rattle.waff_assign.specs.Held.{Held, using}
use Rattle.waff_plan.specs.Table.{IsLatestByLocks, IsLockTable}
use Rattle.waff_plan.proofs.lock_table.LockTable.latest.Given as goal

abbrev pub invariant-loop-used : goal.invariant-loop-used
invariant-loop-used l = (assigned : List Held) (finish : ℕ → ℕ) (noted : List ℕ) → IsLockTable assigned finish noted l.self
    → IsLatestByLocks assigned finish noted (using (take l.used-index l.uses)) l.found

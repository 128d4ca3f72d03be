use Rattle.std.proofs.Common.{◌≡◌, ℕ, List, length, take}
use Rattle.waff_assign.specs.Held.{Held}
use Rattle.waff_plan.specs.Table.{IsLockTable}
use Rattle.waff_plan.proofs.LockTables.{AreUsesNoted}
use Rattle.waff_plan.proofs.lock_table.LockTable.note.Given as goal

abbrev pub invariant-loop-used : goal.invariant-loop-used
invariant-loop-used l = record {
  count : length l.self.locks.items ≡ length l.fn.self.locks.items;
  noted : (assigned : List Held) (finish : ℕ → ℕ) (noted : List ℕ) → IsLockTable assigned finish noted l.fn.self → finish l.message.number ≡ l.message.finish
      → AreUsesNoted assigned finish noted l.message.number (take l.used-index l.uses) l.self;
}

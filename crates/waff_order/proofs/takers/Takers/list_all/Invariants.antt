use Rattle.std.proofs.Common.{◌≡◌, ◌++◌, List, take}
use Rattle.waff_order.specs.Takers.{AreStates, LockState, opened_by}
use Rattle.waff_order.proofs.takers.Takers.list_all.Given as goal

abbrev pub invariant-loop-lock : goal.invariant-loop-lock
invariant-loop-lock l = (states : List LockState) → AreStates l.self.locks.items l.self.chain.items states
    → l.needs.items ≡ l.fn.needs.items ++ opened_by l.root states (take l.lock-index l.self.touched.items)

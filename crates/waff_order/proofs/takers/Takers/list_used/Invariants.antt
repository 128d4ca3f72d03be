use Rattle.std.proofs.Common.{◌≡◌, ◌++◌, List, take}
use Rattle.waff_order.specs.Takers.{AreStates, LockState, needs_by}
use Rattle.waff_order.proofs.takers.Takers.list_used.Given as goal

abbrev pub invariant-loop-used : goal.invariant-loop-used
invariant-loop-used l = (states : List LockState) → AreStates l.self.locks.items l.self.chain.items states
    → l.needs.items ≡ l.fn.needs.items ++ needs_by l.root states (take l.used-index l.uses)

use Rattle.std.proofs.Common.{List, take}
use Rattle.waff_order.specs.Takers.{AreStates, AreTouched, LockState, note_uses}
use Rattle.waff_order.proofs.takers.Takers.note_used.Given as goal

abbrev pub invariant-loop-used : goal.invariant-loop-used
invariant-loop-used l = (states : List LockState) → AreStates l.fn.self.locks.items l.fn.self.chain.items states
    → AreStates l.self.locks.items l.self.chain.items (note_uses l.m states (take l.used-index l.uses))
    × (AreTouched l.root states l.fn.self.touched.items
    → AreTouched l.root (note_uses l.m states (take l.used-index l.uses)) l.self.touched.items)

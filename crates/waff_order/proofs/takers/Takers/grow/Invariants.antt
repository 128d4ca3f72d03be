use Rattle.std.proofs.Common.{◌≡◌, ℕ, ◌+◌, ◌-◌, length}
use Rattle.waff_order.specs.Takers.{taken_at}
use Rattle.waff_order.proofs.takers.Takers.grow.Given as goal

abbrev pub invariant-loop-self : goal.invariant-loop-self
invariant-loop-self l = record {
  locks : (k : ℕ) → taken_at l.self.locks.items k ≡ taken_at l.fn.self.locks.items k;
  chain : l.self.chain.items ≡ l.fn.self.chain.items;
  touched : l.self.touched.items ≡ l.fn.self.touched.items;
}

abbrev pub decreases-loop-self : goal.decreases-loop-self
decreases-loop-self l = l.lock + 1 - length l.self.locks.items

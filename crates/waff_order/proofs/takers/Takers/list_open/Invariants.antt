use Rattle.std.proofs.Common.{◌≡◌, ℕ, ◌++◌, List}
use Rattle.waff_order.specs.Takers.{IsChain, opened_at, since}
use Rattle.waff_order.proofs.takers.Takers.list_open.Given as goal

abbrev pub invariant-loop-at : goal.invariant-loop-at
invariant-loop-at l = (all : List ℕ) → IsChain l.self.chain.items l.fn.taken.sharers all
    → (rest : List ℕ) × IsChain l.self.chain.items l.at rest
    × (l.needs.items ++ since l.root rest ≡ l.fn.needs.items ++ opened_at l.root (record { alone = l.fn.taken.alone; sharers = all }))

abbrev pub decreases-loop-at : goal.decreases-loop-at
decreases-loop-at l = l.at

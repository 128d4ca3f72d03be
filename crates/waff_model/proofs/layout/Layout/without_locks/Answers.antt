use Rattle.waff_model.proofs.Unlocking.{none_unlocked, unlocked_is_layout}
use Rattle.waff_model.proofs.layout.Layout.without_locks.Goals as goal

pub invariant_of-result : goal.invariant_of-result
invariant_of-result c =
    rw c.unlock.ensures
    (unlocked_is_layout (record { format = c.self.inside.format; kind = c.self.inside.kind; tree = c.self.inside.tree.value; spaces = c.self.inside.spaces.items })
    c.self.invariant)

pub returns-clause-none : goal.returns-clause-none
returns-clause-none c = rw c.unlock.ensures (none_unlocked c.self.inside.spaces.items)

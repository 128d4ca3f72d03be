use Rattle.waff_model.proofs.Relocking.{with_is_layout}
use Rattle.waff_model.proofs.layout.Layout.with_lockings.Goals as goal

pub invariant_of-result : goal.invariant_of-result
invariant_of-result c =
    rw (c.in_ok-spaces.ensures, c.in_ok-try_clone.ensures, c.deref.ensures.value)
    (with_is_layout (record { format = c.self.inside.format; kind = c.self.inside.kind; tree = c.self.inside.tree.value; spaces = c.self.inside.spaces.items })
    c.args.lockings.now c.self.invariant)

use Rattle.std.proofs.Common.{◌↔◌, ◌∙◌, ap, sym, subst, length, arith, IsTrue}
use Rattle.waff_model.specs.Layout.{Hierarchy}
use Rattle.waff_assign.specs.Held.{AreKnown}
use Rattle.waff_assign.specs.Order.{IsOrdered}
use Rattle.waff_core.specs.Job.{JobValue}
use Rattle.waff_core.proofs.job.Job.is_ordered.Goals as goal

pub is_ordered-requires-clause-first : goal.is_ordered-requires-clause-first
is_ordered-requires-clause-first c =
    let ops = ap (λ (job : JobValue). length job.ops) c.self.view_is in
    record { from = c.requires.first.from; to = omega (arith, c.requires.first.to, c.self.invariant.count, ops) }

pub is_ordered-requires-clause-second : goal.is_ordered-requires-clause-second
is_ordered-requires-clause-second c =
    let ops = ap (λ (job : JobValue). length job.ops) c.self.view_is in
    record { from = c.requires.second.from; to = omega (arith, c.requires.second.to, c.self.invariant.count, ops) }

pub is_ordered-requires-clause-known : goal.is_ordered-requires-clause-known
is_ordered-requires-clause-known c =
    let tree = c.tree.ensures ∙ ap (λ (l : Hierarchy). l.tree) c.layout.ensures.layout ∙ sym (ap (λ (job : JobValue). job.layout.tree) c.self.view_is) in
    subst (λ t. AreKnown t c.self.inside.assigned) (sym tree) c.self.invariant.known

pub returns : goal.returns
returns c =
    let tree = c.tree.ensures ∙ ap (λ (l : Hierarchy). l.tree) c.layout.ensures.layout in
    let assigned = ap (λ (job : JobValue). job.assigned) c.self.view_is in
    subst (λ t. IsTrue c.is_ordered.result ↔ IsOrdered t c.args.self.now.assigned c.args.i c.args.j) tree
    (subst (λ a. IsTrue c.is_ordered.result ↔ IsOrdered c.tree.result.now a c.args.i c.args.j) assigned c.is_ordered.ensures)

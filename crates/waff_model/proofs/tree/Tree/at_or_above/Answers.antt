use Rattle.std.proofs.Common.{◌≡◌, ◌<◌, length, arith, ◌∙◌}
use Rattle.waff_model.specs.Preorder.{span_at}
use Rattle.waff_model.proofs.PreorderLemmas.{place_at_any}
use Rattle.waff_model.proofs.tree.Tree.at_or_above.Goals as goal

pub returns-clause-answer : goal.returns-clause-answer
returns-clause-answer c =
    let tree = c.self.inside.nodes in
    let spans = c.self.inside.spans.items in
    let are = c.self.invariant.1 in
    let above : c.args.above.0 < length tree = rw c.self.view_is c.requires.above in
    let below : c.args.below.0 < length tree = rw c.self.view_is c.requires.below in
    let one : c.index.result.now ≡ span_at spans c.args.above.0 = c.index.ensures ∙ place_at_any spans c.args.above.0 c.index.result.now (omega (arith, are.count)) in
    let other : c.index-2.result.now ≡ span_at spans c.args.below.0 = c.index-2.ensures ∙ place_at_any spans c.args.below.0 c.index-2.result.now (omega (arith, are.count)) in
    let law = are.tells c.args.above.0 c.args.below.0 above below in
    let spans = rw (one, other) at c.spans.ensures in
    rw (← c.self.view_is) (λ true. law.0 (spans.0 true), λ above. spans.1 (law.1 above))

use Rattle.std.proofs.Common.{◌≡◌, ◌<◌, ◌-◌, length, Some, ap, subst, sym, ◌∙◌, arith}
use Rattle.waff_model.specs.Tree.{parent_of}
use Rattle.waff_model.specs.Preorder.{share_at, span_at}
use Rattle.waff_model.specs.declared.preorder.Span.{Span}
use Rattle.waff_model.proofs.PreorderLemmas.{place_at_any, nested}
use Rattle.waff_model.proofs.ArrangeLemmas.{ArePlacedBefore, IsPlaced, placed_more, all_placed, parent_placed, root_placed, child_fits}
use Rattle.waff_model.proofs.preorder.arrange.Goals as goal
use Rattle.waff_model.proofs.preorder.arrange.Goals.{in-Some, in-None}

pub loop-at-preserved : goal.loop-at-preserved
loop-at-preserved c =
    let tree = c.args.nodes.now in
    let shares = c.args.shares.now in
    let spans = c.loop-at.spans.items in
    let k = c.loop-at.at in
    let rooted = c.requires.tree in
    let shared = c.requires.shares in
    let within : k < length tree = omega (arith, shared.count) in
    let span : Span = record { parent = c.match-parent.parent; first = c.match-parent.end - (share_at shares k).size; end = c.match-parent.end } in
    let placed : IsPlaced tree shares spans k span = elim c.match-parent.branch [
      | in-Some w ↦
          let p = w.in-Some.parent in
          let parent : parent_of tree k ≡ Some p = sym c.parent-parent.ensures ∙ w.in-Some.is in
          let up : p < k = rooted.earlier k p parent in
          let read : w.index.result.now ≡ span_at spans p = w.index.ensures ∙ place_at_any spans p w.index.result.now (omega (arith, c.loop-at.invariant.count)) in
          let below : c.match-parent.end ≡ (span_at spans p).end - (share_at shares k).behind = rw (← read) w.end-is in
          rw w.parent-is (parent_placed tree rooted shares shared spans k p c.match-parent.end c.loop-at.invariant within parent below)
      | in-None w ↦ rw (w.parent-is, w.in-None.is, w.end-is)
          (root_placed tree rooted shares shared spans k within (sym c.parent-parent.ensures ∙ w.in-None.is))
    ] in
    rw c.in_ok-push.ensures.items (placed_more tree rooted shares spans k span c.loop-at.invariant placed)

pub returns : goal.returns
returns c =
    nested c.args.nodes.now c.loop-at.spans.items c.requires.tree
    (all_placed c.args.nodes.now c.requires.tree c.args.shares.now c.requires.shares c.loop-at.spans.items
    (subst (ArePlacedBefore c.args.nodes.now c.args.shares.now c.loop-at.spans.items) (omega (arith, c.requires.shares.count)) c.loop-at.invariant))

pub parent-parent-requires : goal.parent-parent-requires
parent-parent-requires c = omega (arith, c.requires.shares.count)

pub overflow_sub-end : goal.overflow_sub-end
overflow_sub-end c =
    let parent = sym c.parent-parent.ensures ∙ c.in-Some.is in
    let within : c.loop-at.at < length c.args.nodes.now = omega (arith, c.requires.shares.count) in
    let fits = child_fits c.args.nodes.now c.requires.tree c.args.shares.now c.requires.shares c.loop-at.spans.items
    c.loop-at.at c.in-Some.parent c.loop-at.invariant within parent in
    let read = c.index.ensures ∙ place_at_any c.loop-at.spans.items c.in-Some.parent c.index.result.now fits.0 in
    omega (arith, fits.1, ap (λ (span : Span). span.end) read)

pub overflow_sub-first : goal.overflow_sub-first
overflow_sub-first c =
    let within : c.loop-at.at < length c.args.nodes.now = omega (arith, c.requires.shares.count) in
    elim c.match-parent.branch [
      | in-Some w ↦
          let parent = sym c.parent-parent.ensures ∙ w.in-Some.is in
          let fits = child_fits c.args.nodes.now c.requires.tree c.args.shares.now c.requires.shares c.loop-at.spans.items
          c.loop-at.at w.in-Some.parent c.loop-at.invariant within parent in
          let read = w.index.ensures ∙ place_at_any c.loop-at.spans.items w.in-Some.parent w.index.result.now fits.0 in
          omega (arith, fits.1, w.end-is, ap (λ (span : Span). span.end) read)
      | in-None w ↦ omega (arith, w.end-is)
    ]

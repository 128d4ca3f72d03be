use Rattle.std.proofs.Common.{◌≡◌, List, ℕ, length, map, slice_index, sym, ◌∙◌, ap, subst}
use Rattle.std.specs.Vec.{with_items}
use Rattle.std.proofs.lemmas.List.{length-map, with_items_is}
use Rattle.waff_figures.specs.Below.{IsSumBelow}
use Rattle.waff_figures.specs.declared.tally.Tally.{Tally}
use Rattle.waff_figures.proofs.below.costs_below.Goals as goal

pub sum_up-requires-clause-lengths : goal.sum_up-requires-clause-lengths
sum_up-requires-clause-lengths c =
    ap length (c.deref_mut.ensures.value ∙ c.in_ok-sums.ensures) ∙ length-map c.args.tallies.now (λ (t : Tally). t.cost) ∙ c.requires.lengths

-- what is left are the sums
kept : (c : goal.After-sums-3-1) → (with_items c.in_ok-sums.sums c.sum_up.new.sums).items ≡ c.sum_up.new.sums
kept c =
    let sums = c.in_ok-sums.sums in
    let long = ap length c.in_ok-sums.ensures ∙ length-map c.args.tallies.now (λ (t : Tally). t.cost) ∙ c.requires.lengths in
    with_items_is sums c.sum_up.new.sums (c.sum_up.ensures.count ∙ sym long ∙ sym sums.ok.0)

pub returns-clause-below : goal.returns-clause-below
returns-clause-below c = λ a low.
    let tree = c.args.tree.now in
    let sums = c.sum_up.new.sums in
    let costs = map (λ (t : Tally). t.cost) c.args.tallies.now in
    subst (λ (xs : List ℕ). IsSumBelow tree costs a (slice_index xs a)) (sym (kept c))
    (subst (λ (xs : List ℕ). IsSumBelow tree xs a (slice_index sums a)) (c.deref_mut.ensures.value ∙ c.in_ok-sums.ensures) (c.sum_up.ensures.below a low))

pub returns-clause-count : goal.returns-clause-count
returns-clause-count c = ap length (kept c) ∙ c.sum_up.ensures.count

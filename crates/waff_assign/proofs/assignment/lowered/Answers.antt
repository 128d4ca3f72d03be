use Rattle.std.proofs.Common.{ℕ, List, Option, sym, ◌∙◌, ap, subst}
use Rattle.std.specs.Prelude.{option_map}
use Rattle.std.proofs.lemmas.Bool.{false≢true}
use Rattle.waff_model.specs.Layout.{IsLocked, are_locked}
use Rattle.waff_model.specs.Tree.{Node, AtOrAbove}
use Rattle.waff_model.specs.declared.tree.AffinityId.{AffinityId}
use Rattle.waff_assign.specs.Lowest.{IsAffinityAmong}
use Rattle.waff_assign.proofs.Lowering.{among_first, among_locked, among_more}
use Rattle.waff_assign.proofs.Numbering.{locked_true, true_locked}
use Rattle.waff_assign.proofs.assignment.lowered.Goals as goal

pub returns-then-are_some-clause-lowest : goal.returns-then-are_some-clause-lowest
returns-then-are_some-clause-lowest c = λ cells.
    among_locked c.args.layout.now cells c.args.cell (option_map (λ (a : AffinityId). a.0) c.args.low)
    (true_locked c.args.layout.now.spaces c.args.cell (ap are_locked (sym c.locking.ensures) ∙ sym c.are_some.ensures ∙ c.if-are_some.true))

pub returns-in-Some-clause-lowest : goal.returns-in-Some-clause-lowest
returns-in-Some-clause-lowest c = λ cells before.
    let layout = c.args.layout.now in
    let free = λ (locked : IsLocked layout.spaces c.args.cell).
    false≢true (sym c.if-are_some.false ∙ c.are_some.ensures ∙ ap are_locked c.locking.ensures ∙ locked_true layout.spaces c.args.cell locked) in
    let first = c.in-Some.low.0 in
    let owner = c.owner-owner.result.0 in
    let low = c.lowest_above.result.0 in
    let h = c.lowest_above.ensures in
    let same = c.tree.ensures in
    among_more layout cells c.args.cell first owner low free c.owner-owner.ensures.owner
    (subst (λ (t : List Node). AtOrAbove t low first) same h.first)
    (subst (λ (t : List Node). AtOrAbove t low owner) same h.second)
    (subst (λ (t : List Node). (a : ℕ) → AtOrAbove t a first → AtOrAbove t a owner → AtOrAbove t a low) same h.lowest)
    (subst (λ (o : Option AffinityId). IsAffinityAmong layout cells (option_map (λ (a : AffinityId). a.0) o)) c.in-Some.is before)

pub returns-in-None-clause-lowest : goal.returns-in-None-clause-lowest
returns-in-None-clause-lowest c = λ cells before.
    let layout = c.args.layout.now in
    let free = λ (locked : IsLocked layout.spaces c.args.cell).
    false≢true (sym c.if-are_some.false ∙ c.are_some.ensures ∙ ap are_locked c.locking.ensures ∙ locked_true layout.spaces c.args.cell locked) in
    among_first layout cells c.args.cell c.owner-owner.result.0 free c.owner-owner.ensures.owner
    (subst (λ (o : Option AffinityId). IsAffinityAmong layout cells (option_map (λ (a : AffinityId). a.0) o)) c.in-None.is before)

use Rattle.std.proofs.Common.{false, get_or, inl, inr, sym, ◌∙◌}
use Rattle.std.proofs.lemmas.Bool.{false≢true}
use Rattle.std.proofs.lemmas.List.Elements.{Contains-get_or}
use Rattle.std.proofs.lemmas.Option.{slice_get-get_or}
use Rattle.waff_assign.specs.declared.held.LockUse.{LockUse}
use Rattle.waff_assign.proofs.Contentions.{first_met, none_ahead, step_first, step_second}
use Rattle.waff_assign.proofs.order.first_contended.Goals as goal

-- what a read past the end would give
abbrev none : LockUse
none = record { lock = 0; alone = false }

pub returns-then-uses_contend : goal.returns-then-uses_contend
returns-then-uses_contend c =
    let uses = c.args.uses.now in
    let others = c.args.others.now in
    first_met uses others c.loop-at.at c.loop-at.other (get_or uses c.loop-at.at none) (get_or others c.loop-at.other none) c.requires.rising
    (slice_get-get_or uses c.loop-at.at none c.loop-at-test.true) (Contains-get_or uses c.loop-at.at none c.loop-at-test.true)
    (Contains-get_or others c.loop-at.other none c.if-other-others.true) c.loop-at.invariant (c.uses_contend.ensures.0 c.if-uses_contend.true)

pub loop-at-preserved-then-one-two : goal.loop-at-preserved-then-one-two
loop-at-preserved-then-one-two c =
    let uses = c.args.uses.now in
    let others = c.args.others.now in
    step_first uses others c.loop-at.at c.loop-at.other (get_or uses c.loop-at.at none) (get_or others c.loop-at.other none) c.requires.others
    (slice_get-get_or uses c.loop-at.at none c.loop-at-test.true) (slice_get-get_or others c.loop-at.other none c.if-other-others.true)
    (λ one. false≢true (sym c.if-uses_contend.false ∙ c.uses_contend.ensures.1 one)) c.if-one-two.true c.loop-at.invariant

pub loop-at-preserved : goal.loop-at-preserved
loop-at-preserved c =
    let uses = c.args.uses.now in
    let others = c.args.others.now in
    step_second uses others c.loop-at.at c.loop-at.other (get_or uses c.loop-at.at none) (get_or others c.loop-at.other none) c.requires.rising
    (slice_get-get_or uses c.loop-at.at none c.loop-at-test.true) (slice_get-get_or others c.loop-at.other none c.if-other-others.true)
    c.if-one-two.false c.loop-at.invariant

pub returns-else-other-others : goal.returns-else-other-others
returns-else-other-others c =
    none_ahead c.args.uses.now c.args.others.now c.loop-at.at c.loop-at.other (inr c.if-other-others.false) c.loop-at.invariant

pub returns-after-loop-at : goal.returns-after-loop-at
returns-after-loop-at c =
    none_ahead c.args.uses.now c.args.others.now c.loop-at.at c.loop-at.other (inl c.loop-at-test.false) c.loop-at.invariant

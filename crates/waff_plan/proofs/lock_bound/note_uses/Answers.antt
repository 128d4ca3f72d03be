use Rattle.std.proofs.Common.{◌≡◌, ◌<◌, true, false, length, get_or, arith, ◌∙◌, ap, subst}
use Rattle.std.proofs.lemmas.List.{get_or_default, take_all}
use Rattle.waff_assign.specs.Held.{using}
use Rattle.waff_assign.specs.declared.held.LockUse.{LockUse}
use Rattle.waff_plan.specs.LockNeeds.{IsNeedWith, no_need}
use Rattle.waff_plan.specs.LowerBound.{uses_alone, uses_lock}
use Rattle.waff_plan.specs.declared.lock_bound.LockNeed.{LockNeed}
use Rattle.waff_plan.proofs.LockNeedLemmas.{kept_within, none_noted, noted_more}
use Rattle.waff_plan.proofs.lock_bound.note_uses.Goals as goal

pub loop-p-init : goal.loop-p-init
loop-p-init c = none_noted c.args.in_root c.args.cost c.args.uses.now c.args.needs.now.items

pub need_with-requires-clause-small : goal.need_with-requires-clause-small
need_with-requires-clause-small c =
    let none : LockUse = record { lock = 0; alone = false } in
    let u = get_or c.args.uses.now c.loop-p.p none in
    let low : u.lock < length c.args.needs.now.items = c.requires.below c.loop-p.p none c.loop-p-test.true in
    let kept = kept_within c.args.in_root c.args.cost c.args.uses.now c.args.needs.now.items c.loop-p.p c.loop-p.needs.items c.loop-p.invariant u.lock low in
    let there : u.lock < length c.loop-p.needs.items = omega (arith, low, c.loop-p.invariant.count) in
    let read : c.index-need.result.now ≡ get_or c.loop-p.needs.items u.lock no_need
    = c.index-need.ensures ∙ get_or_default c.loop-p.needs.items u.lock c.index-need.result.now no_need there in
    omega (arith, kept, c.requires.small u.lock low, c.requires.cost, ap (λ (need : LockNeed). need.kept) read)

pub loop-p-preserved : goal.loop-p-preserved
loop-p-preserved c =
    let uses = c.args.uses.now in
    let p = c.loop-p.p in
    let none : LockUse = record { lock = 0; alone = false } in
    let u = get_or uses p none in
    let within = c.loop-p-test.true in
    let low : u.lock < length c.args.needs.now.items = c.requires.below p none within in
    let there : u.lock < length c.loop-p.needs.items = omega (arith, low, c.loop-p.invariant.count) in
    let read : c.index-need.result.now ≡ get_or c.loop-p.needs.items u.lock no_need
    = c.index-need.ensures ∙ get_or_default c.loop-p.needs.items u.lock c.index-need.result.now no_need there in
    noted_more c.args.in_root c.args.cost uses c.args.needs.now.items c.requires.rising p u within (get_or_default uses p none u within)
    c.loop-p.needs.items c.need_with.result c.loop-p.invariant there
    (subst (λ old. IsNeedWith c.args.in_root c.args.cost u.alone true old c.need_with.result) read c.need_with.ensures)

pub returns-clause-each : goal.returns-clause-each
returns-clause-each c = λ lock low.
    let uses = c.args.uses.now in
    subst (λ us. IsNeedWith c.args.in_root c.args.cost (uses_alone lock (using us)) (uses_lock lock (using us)) (get_or c.args.needs.now.items lock no_need) (get_or c.loop-p.needs.items lock no_need))
    (take_all c.loop-p.p uses (omega (arith, c.loop-p-test.false))) (c.loop-p.invariant.each lock low)

use Rattle.std.proofs.Common.{rules, ◌+◌, ◌<◌, length, None, get_or, arith, sym, subst, inl}
use Rattle.waff_model.proofs.TreeLemmas.{reflexive}
use Rattle.waff_order.specs.Lowests.{AreLowests, IsCoarseOf}
use Rattle.waff_order.proofs.LowestLemmas.{noted_is, coarse_later, refined_excludes, lowests_more}
use Rattle.waff_order.proofs.lowests.note_messages.Goals as goal

pub returns-in_default-lower-clause-refined : goal.returns-in_default-lower-clause-refined
returns-in_default-lower-clause-refined c = λ tree refines.
    let assigned = c.args.assigned.now in
    let coarse_tree = c.args.coarse_tree.now in
    let coarse_assigned = c.args.coarse_assigned.now in
    let n = c.loop-n.n in
    let place = c.in-Some-Some.place.0 in
    let apart = c.in_default-lower.ensures.0 in
    let noted = (noted_is coarse_tree (IsCoarseOf assigned coarse_assigned n place) (get_or c.loop-n.lowests place None) apart.0 apart.1
    (c.loop-n.invariant place)).one in
    let last : IsCoarseOf assigned coarse_assigned (length assigned + 1) place c.in-Some-Some.coarse
    = record { message = n; from = c.loop-n.auto.n; before = omega arith; affinity = sym c.in-Some-Some.ensures; coarse = sym c.in-Some-Some.ensures' } in
    absurd (apart.2 (refined_excludes assigned coarse_tree coarse_assigned tree c.in_default-lower.ensures.1 c.requires.coarse_known
    c.requires.coarse_unlocked c.requires.lengths refines place place apart.0 c.in-Some-Some.coarse
    (coarse_later assigned coarse_tree coarse_assigned n (length assigned + 1) place apart.0 (omega arith) noted) last
    (inl (reflexive tree place))))

pub loop-n-preserved : goal.loop-n-preserved
loop-n-preserved c =
    let assigned = c.args.assigned.now in
    let lowests = c.loop-n.lowests in
    let within : c.in-Some-Some.place.0 < length lowests = search rules in
    lowests_more assigned c.args.coarse_tree.now c.args.coarse_assigned.now c.loop-n.n c.in-Some-Some.place.0 lowests c.in-Some-Some.coarse c.in-Some.low
    c.loop-n.auto.n (sym c.in-Some-Some.ensures) within (sym c.in-Some-Some.ensures') c.in-Some.ensures c.loop-n.invariant

pub returns-clause-lowests : goal.returns-clause-lowests
returns-clause-lowests c = λ _.
    subst (λ n. AreLowests c.args.assigned.now c.args.coarse_tree.now c.args.coarse_assigned.now n c.loop-n.lowests) (omega arith) c.loop-n.invariant

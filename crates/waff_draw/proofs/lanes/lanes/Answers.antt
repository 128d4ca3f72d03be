use Rattle.std.proofs.Common.{rules, ◌≡◌, ◌<◌, ◌≤◌, All, List, length, arith, sym, subst}
use Rattle.std.proofs.lemmas.Result.{IfOk-weaker}
use Rattle.waff_draw.specs.Lanes.{laned_of, lanes_of}
use Rattle.waff_draw.specs.declared.lanes.Lane.{Lane}
use Rattle.waff_draw.proofs.PreorderLemmas.{few_lanes, lanes_known}
use Rattle.waff_draw.proofs.lanes.lanes.Goals as goal

pub returns-clause-lanes : goal.returns-clause-lanes
returns-clause-lanes c = search rules

pub returns-clause-known : goal.returns-clause-known
returns-clause-known c =
    let tree = c.args.case.now.tree.now in
    let assigned = laned_of tree c.args.case.now.assigned.now c.args.is_tree in
    let known = λ (lanes : List Lane). All (λ lane. lane.affinity < length tree) lanes in
    IfOk-weaker c.collect.result (λ lanes. lanes.items ≡ lanes_of tree assigned) (λ lanes. known lanes.items)
    (λ lanes is. subst known (sym is) (lanes_known tree assigned)) (returns-clause-lanes c)

pub returns-clause-few : goal.returns-clause-few
returns-clause-few c =
    let tree = c.args.case.now.tree.now in
    let assigned = laned_of tree c.args.case.now.assigned.now c.args.is_tree in
    IfOk-weaker c.collect.result (λ lanes. lanes.items ≡ lanes_of tree assigned) (λ lanes. length lanes.items ≤ 65536)
    (λ lanes is. subst (λ (ls : List Lane). length ls ≤ 65536) (sym is) (omega (arith, few_lanes tree assigned, c.len-tree.ensures.tree.rooted.few))) (returns-clause-lanes c)

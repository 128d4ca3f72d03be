-- One affinity after another, each behind its parent.
use Rattle.std.proofs.Common.{◌≡◌, ◌+◌, ◌<◌, length, arith, sym, ◌∙◌, ap}
use Rattle.std.proofs.lemmas.List.{get_or_default, length-set}
use Rattle.waff_model.specs.Tree.{parent_of}
use Rattle.waff_plan.specs.LowerBound.{of_parent, own_cost, path_cost}
use Rattle.waff_plan.specs.Planned.{planned_work}
use Rattle.waff_plan.proofs.LowerBounds.{done_more, path_is, path_within, rest_fewer}
use Rattle.waff_plan.proofs.lower_bound.longest_path.Goals as goal
use Rattle.waff_plan.proofs.lower_bound.longest_path.Goals.{After-index-in-loop-a, in-Some, in-None}

within : (c : After-index-in-loop-a) → c.loop-a.a < length c.loop-a.costs.items
within c = omega (arith, c.loop-a-test.true, c.len-a-end.ensures, c.in_ok-costs.ensures.count, c.in_ok-costs.costs.ok.0, c.loop-a.invariant.count)

-- the sum down to the affinity
path : (c : After-index-in-loop-a)
    → c.index-in-loop-a.result.now + c.match-parent.above ≡ path_cost c.args.planned.now.case.tree.now c.args.planned.now.case.assigned.now (planned_work c.args.planned.now) c.loop-a.a
path c =
    let tree = c.args.planned.now.case.tree.now in
    let work = planned_work c.args.planned.now in
    let costs = c.loop-a.costs.items in
    let a = c.loop-a.a in
    let path = path_cost tree c.args.planned.now.case.assigned.now work in
    let so_far = c.loop-a.invariant in
    let is_tree = c.len-affinities.ensures.tree in
    let above : c.match-parent.above ≡ of_parent path (parent_of tree a) = elim c.match-parent.branch [
      | in-Some w ↦
          (let p = w.in-Some.parent.0 in
          let lower : p < a = is_tree.rooted.earlier a p (sym w.in-Some.ensures) in
          let there : p < length costs = omega (arith, lower, within c) in
          w.above-is ∙ w.index.ensures ∙ get_or_default costs p w.index.result.now 0 there ∙ so_far.done p lower ∙ ap (of_parent path) w.in-Some.ensures)
      | in-None w ↦ w.above-is ∙ ap (of_parent path) w.in-None.ensures
    ] in
    omega (
      arith,
      c.index-in-loop-a.ensures,
      get_or_default costs a c.index-in-loop-a.result.now 0 (within c),
      so_far.rest a (omega arith) (omega (arith, within c, so_far.count)),
      above,
      path_is tree c.args.planned.now.case.assigned.now work is_tree.rooted a,
    )

pub overflow_cast-a : goal.overflow_cast-a
overflow_cast-a c =
    omega (arith, c.loop-a-test.true, c.len-a-end.ensures, c.in_ok-costs.ensures.count, c.in_ok-costs.costs.ok.0, c.len-affinities.ensures.tree.rooted.few)

pub index-requires : goal.index-requires
index-requires c =
    let lower = c.len-affinities.ensures.tree.rooted.earlier c.loop-a.a c.in-Some.parent.0 (sym c.in-Some.ensures) in
    omega (arith, lower, c.loop-a-test.true, c.len-a-end.ensures, c.in_ok-costs.ensures.count, c.in_ok-costs.costs.ok.0, c.loop-a.costs.ok.0, c.loop-a.invariant.count)

pub overflow_add-cost : goal.overflow_add-cost
overflow_add-cost c =
    omega (
      arith,
      path (goal.at.overflow_add-cost c).After-index-in-loop-a,
      path_within c.args.planned.now.case.tree.now c.args.planned.now.case.assigned.now (planned_work c.args.planned.now) c.len-affinities.ensures.tree c.loop-a.a,
      c.total-total.ensures.small,
    )

pub loop-a-preserved : goal.loop-a-preserved
loop-a-preserved c =
    let s = (goal.at.loop-a-preserved c).After-index-in-loop-a in
    let tree = c.args.planned.now.case.tree.now in
    let work = planned_work c.args.planned.now in
    let costs = c.loop-a.costs.items in
    let a = c.loop-a.a in
    let sums = path_cost tree c.args.planned.now.case.assigned.now work in
    let so_far = c.loop-a.invariant in
    let cost = c.index-in-loop-a.result.now + c.match-parent.above in
    record {
      count = length-set costs a cost ∙ so_far.count;
      done = done_more sums costs a cost (within s) (path s) so_far.done;
      rest = rest_fewer (own_cost c.args.planned.now.case.assigned.now work) costs a cost (length tree) so_far.rest;
      longest = c.or-longest.ensures sums 0 a (omega arith) (sym (path s)) so_far.longest;
    }

pub loop-a-init : goal.loop-a-init
loop-a-init c = record {
  count = c.in_ok-costs.ensures.count;
  done = λ p lt. absurd (omega (arith, lt));
  rest = λ p from lt. c.in_ok-costs.ensures.each p lt;
  longest = c.none-longest.ensures (path_cost c.args.planned.now.case.tree.now c.args.planned.now.case.assigned.now (planned_work c.args.planned.now)) 0;
}

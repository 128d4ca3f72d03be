-- The cost of one message after another.
use Rattle.std.proofs.Common.{◌≡◌, ◌+◌, ◌-◌, ◌<◌, None, length, get_or, set, arith, sym, ◌∙◌, ap}
use Rattle.std.specs.Prelude.{option_map}
use Rattle.std.proofs.lemmas.List.{get_or_default, length-set}
use Rattle.waff_assign.specs.Held.{nothing}
use Rattle.waff_assign.specs.Order.{affinity_of}
use Rattle.waff_plan.specs.Timetable.{work_in}
use Rattle.waff_plan.proofs.LowerBounds.{own_more, own_no_more, small_more}
use Rattle.waff_plan.proofs.lower_bound.own_costs.Goals as goal
use Rattle.waff_plan.proofs.lower_bound.own_costs.Goals.{in-Some, in_default}

pub loop-n-preserved : goal.loop-n-preserved
loop-n-preserved c =
    let assigned = c.args.case.now.assigned.now in
    let work = work_in c.args.plan.now in
    let n = c.loop-n.n in
    let costs = c.loop-n.costs.items in
    let so_far = c.loop-n.invariant in
    let from = c.loop-n.auto.n in
    elim c.match-affinity.branch [
      | in-Some w ↦
          let a = w.in-Some.affinity.0 in
          let now = w.index.result.now + w.cost.result in
          let items : c.match-affinity.costs.items ≡ set costs a now = ap (λ v. v.items) w.costs-is in
          let held = c.args.case.now.known (n - 1) nothing (omega (arith, from, c.loop-n-test.true, c.len-n-end.ensures.count, c.requires.lengths)) in
          let known : a < length c.args.case.now.tree.now = held.affinity a (sym w.in-Some.ensures) in
          let within : a < length costs = omega (arith, known, so_far.count) in
          let is : now ≡ get_or costs a 0 + work.cost n = omega (arith, w.index.ensures, get_or_default costs a w.index.result.now 0 within, w.cost.ensures.cost) in
          rw (items) (record {
            count = length-set costs a now ∙ so_far.count;
            each = λ b there. own_more assigned work n a now costs from (sym w.in-Some.ensures) within so_far.each is b (omega (arith, there, length-set costs a now));
            small = λ b there. small_more costs n a now (work.cost n) from within so_far.small is (omega (arith, w.cost.ensures.cost, w.cost.ensures.small)) b (omega (arith, there, length-set costs a now));
          })
      | in_default w ↦
          let items : c.match-affinity.costs.items ≡ costs = ap (λ v. v.items) w.costs-is in
          let none : affinity_of assigned n ≡ None = sym c.affinity.ensures ∙ ap (option_map (λ a. a.0)) w.in_default.is in
          rw (items) (record {
            count = so_far.count;
            each = λ b there. own_no_more assigned work n costs from none so_far.each b there;
            small = λ b there. omega (arith, so_far.small b there, from);
          })
    ]

use Rattle.std.proofs.Common.{◌≡◌, ℕ, List, length, sym, ◌∙◌, ap, subst}
use Rattle.std.proofs.lemmas.Result.{IfOk-weaker}
use Rattle.waff_plan.specs.Timetable.{work_of_messages}
use Rattle.waff_plan.specs.Timing.{start_of, work_of}
use Rattle.waff_list.specs.Seats.{IsInOrder}
use Rattle.waff_list.specs.Unique.{EachRuns}
use Rattle.waff_list.specs.declared.rule.Rule.TheVariants.{Arrival}
use Rattle.waff_list.proofs.TraceWork.{count_is, trace_is_small}
use Rattle.waff_core.specs.Job.{IsOrder}
use Rattle.waff_tool.proofs.OrderLemmas.{plan_order_is_order}
use Rattle.waff_tool.proofs.replays.list_order.Goals as goal

-- the order is one: the plan obeys, and each message runs
pub returns-clause-order : goal.returns-clause-order
returns-clause-order c =
    let trace = c.args.accepted.now.trace in
    let tree = c.args.accepted.now.layout.tree in
    let assigned = c.args.accepted.now.assigned in
    let needs = c.args.needs.now in
    let timings = c.in_ok-plan.plan.plan.timings in
    let work = work_of timings in
    let start = start_of c.in_ok-plan.plan.plan.starts in
    let is = c.in_ok-plan.ensures.timings in
    let small = trace_is_small trace c.requires.trace in
    let runs : EachRuns work = subst (λ ts. EachRuns (work_of ts)) (sym is) small.some_cost in
    let same : length assigned ≡ work.count =
    c.requires.assignment.count ∙ sym (count_is trace.messages) ∙ sym (ap (λ ts. length ts) is) in
    let plan = c.needs_make_the_same_plans.ensures tree assigned needs work Arrival c.args.k start c.requires.needs c.in_ok-plan.ensures.follows in
    let order = plan_order_is_order tree assigned needs work start c.in_ok-plan.plan.order c.requires.needs same
    runs plan.within.obeys.ordered c.in_ok-plan.ensures.order in
    IfOk-weaker c.from_slice-order.result _ _
    (λ kept items. subst (λ (xs : List ℕ). IsOrder needs xs) (sym (items ∙ c.order.ensures.order)) order)
    c.from_slice-order.ensures.items

-- the plan follows the rule over the ordered pairs, as the needs make the same plans
pub returns-clause-list : goal.returns-clause-list
returns-clause-list c =
    let trace = c.args.accepted.now.trace in
    let tree = c.args.accepted.now.layout.tree in
    let assigned = c.args.accepted.now.assigned in
    let timings = c.in_ok-plan.plan.plan.timings in
    let start = start_of c.in_ok-plan.plan.plan.starts in
    let is = c.in_ok-plan.ensures.timings in
    let plan = c.needs_make_the_same_plans.ensures tree assigned c.args.needs.now (work_of timings) Arrival c.args.k start
    c.requires.needs c.in_ok-plan.ensures.follows in
    let listed = rw is at c.in_ok-plan.ensures.order in
    IfOk-weaker c.from_slice-order.result _ _
    (λ kept items. record {
      start = start;
      plan = rw is at plan;
      listed = subst (λ (xs : List ℕ). IsInOrder (work_of_messages trace.messages) start xs) (sym (items ∙ c.order.ensures.order)) listed;
    })
    c.from_slice-order.ensures.items

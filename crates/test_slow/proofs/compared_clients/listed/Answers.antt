use Rattle.waff_plan.specs.Timing.{start_of}
use Rattle.test_slow.proofs.ClientPlans.{as_many, plan_obeys}
use Rattle.test_slow.proofs.compared_clients.listed.Goals as goal

pub chain-requires-clause-lengths : goal.chain-requires-clause-lengths
chain-requires-clause-lengths c =
    rw c.plan-plan.ensures.plan (as_many c.args.case.now.trace.now.messages _ _ c.in_ok-made.ensures.timings c.args.case.now.lengths)

pub chain-requires-clause-served : goal.chain-requires-clause-served
chain-requires-clause-served c = λ third.
    let case = c.args.case.now in
    let made = c.in_ok-made.made in
    rw (c.plan-plan.ensures.plan, c.in_ok-made.ensures.version)
    (plan_obeys case.trace.now.version c.args.rule case.tree.now case.assigned.now _ c.args.k (start_of made.plan.starts) c.in_ok-made.ensures.follows)

use Rattle.test_slow.proofs.ClientPlans.{as_many}
use Rattle.test_slow.proofs.compared_clients.unlimited.Goals as goal

pub chain-requires-clause-lengths : goal.chain-requires-clause-lengths
chain-requires-clause-lengths c =
    as_many c.args.case.now.trace.now.messages _ _ c.in_ok-plan.ensures.timings c.args.case.now.lengths

pub chain-requires-clause-served : goal.chain-requires-clause-served
chain-requires-clause-served c = λ third. c.in_ok-plan.ensures.least.obeys

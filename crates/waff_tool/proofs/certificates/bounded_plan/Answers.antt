use Rattle.std.proofs.Common.{◌≤◌}
use Rattle.waff_assign.specs.Case.{instance_of}
use Rattle.waff_plan.specs.Timing.{start_of}
use Rattle.waff_tool.proofs.CertificateLemmas.{as_many, bounded, busy_served}
use Rattle.waff_tool.proofs.certificates.bounded_plan.Goals as goal

pub chain-requires-clause-lengths : goal.chain-requires-clause-lengths
chain-requires-clause-lengths c =
    rw c.plan-plan.ensures.plan (as_many c.args.case.now.trace.now.messages _ _ c.in_ok-made.ensures.timings c.args.case.now.lengths)

pub chain-requires-clause-served : goal.chain-requires-clause-served
chain-requires-clause-served c = λ third.
    let case = c.args.case.now in
    let made = c.in_ok-made.made in
    rw (c.plan-plan.ensures.plan, c.in_ok-made.ensures.version)
    (busy_served case.trace.now.version c.args.rule case.tree.now case.assigned.now _ c.number.result (start_of made.plan.starts) c.in_ok-made.ensures.follows).within.obeys

pub returns-clause-seated : goal.returns-clause-seated
returns-clause-seated c = rw c.in_ok-made.ensures.timings at c.in_ok-made.ensures.seated

pub returns-clause-bounded : goal.returns-clause-bounded
returns-clause-bounded c =
    let case = c.args.case.now in
    let made = c.in_ok-made.made in
    let starts = start_of made.plan.starts in
    let version = c.in_ok-made.ensures.version in
    let timings = c.in_ok-made.ensures.timings in
    let are = rw (c.plan-plan.ensures.plan, version, timings) at c.len-messages.ensures.table.timings in
    let list = rw (timings, c.number.ensures.number) at c.in_ok-made.ensures.follows in
    let printed = rw (c.plan-plan.ensures.plan, version, timings) at c.in_ok-chain.ensures.printed in
    let some : 1 ≤ c.args.k = rw c.number.ensures.number at c.number.ensures.is.from in
    bounded (instance_of case) are case.lengths starts c.in_ok-chain.chain.messages printed c.args.rule c.args.k some list

use Rattle.std.proofs.Common.{length, ◌∙◌, ap}
use Rattle.waff_assign.specs.Case.{instance_of}
use Rattle.waff_plan.specs.Timing.{start_of}
use Rattle.waff_tool.proofs.CertificateLemmas.{as_many, certified}
use Rattle.waff_tool.proofs.certificates.certified_plan.Goals as goal

pub linked_chain-requires-clause-lengths : goal.linked_chain-requires-clause-lengths
linked_chain-requires-clause-lengths c =
    as_many c.args.case.now.trace.now.messages _ _ c.in_ok-made.ensures.timings c.args.case.now.lengths

pub linked_chain-requires-clause-served : goal.linked_chain-requires-clause-served
linked_chain-requires-clause-served c = λ third. c.in_ok-made.ensures.least.obeys

pub linked_chain-requires-clause-count : goal.linked_chain-requires-clause-count
linked_chain-requires-clause-count c = ap length c.as_slice.ensures.value ∙ c.in_ok-made.ensures.count

pub linked_chain-requires-clause-links : goal.linked_chain-requires-clause-links
linked_chain-requires-clause-links c = rw c.as_slice.ensures.value c.in_ok-made.ensures.links

pub returns-clause-certified : goal.returns-clause-certified
returns-clause-certified c =
    let case = c.args.case.now in
    let starts = start_of c.in_ok-made.made.0.starts in
    let version = c.in_ok-made.ensures.version in
    let timings = c.in_ok-made.ensures.timings in
    let are = rw (version, timings) at c.len-messages.ensures.table.timings in
    let served = rw (version, timings) at c.in_ok-made.ensures.least in
    let least = rw (version, timings) at c.in_ok-made.ensures.started in
    let printed = rw (version, timings) at c.in_ok-chain.ensures.printed in
    certified (instance_of case) are case.lengths starts c.in_ok-chain.chain.messages printed served least

use Rattle.std.proofs.Common.{None}
use Rattle.std.proofs.lemmas.Result.{IfOk-weaker}
use Rattle.waff_tool.proofs.CertificateLemmas.{as_many}
use Rattle.waff_tool.proofs.waits.unlimited_waits.Goals as goal

pub invariant_of-planned : goal.invariant_of-planned
invariant_of-planned c = record {
  version = c.in_ok-plan.ensures.version;
  timings = c.in_ok-plan.ensures.timings;
  lengths = as_many c.args.case.now.trace.now.messages _ _ c.in_ok-plan.ensures.timings c.args.case.now.lengths;
}

pub planned_waits-text-requires-clause-obeys : goal.planned_waits-text-requires-clause-obeys
planned_waits-text-requires-clause-obeys c = c.in_ok-plan.ensures.least.obeys

pub returns : goal.returns
returns c =
    IfOk-weaker c.planned_waits-text.result _ _
    (λ text tells rule. tells rule None (rw (c.in_ok-plan.ensures.version, c.in_ok-plan.ensures.timings) at c.in_ok-plan.ensures.least))
    c.planned_waits-text.ensures

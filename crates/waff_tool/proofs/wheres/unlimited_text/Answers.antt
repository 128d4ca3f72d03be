use Rattle.std.proofs.Common.{length, string_bytes, sym, subst}
use Rattle.std.proofs.lemmas.Result.{IfOk-weaker}
use Rattle.waff_assign.specs.Case.{instance_of}
use Rattle.waff_plan.specs.Chain.{IsListed}
use Rattle.waff_plan.specs.Timing.{start_of}
use Rattle.waff_tool.specs.WhereText.{TellsSpent}
use Rattle.waff_tool.proofs.CertificateLemmas.{as_many}
use Rattle.waff_tool.proofs.wheres.unlimited_text.Goals as goal

pub invariant_of-planned : goal.invariant_of-planned
invariant_of-planned c = record {
  version = c.in_ok-certified.ensures.version;
  timings = c.in_ok-certified.ensures.timings;
  lengths = as_many c.args.case.now.trace.now.messages _ _ c.in_ok-certified.ensures.timings c.args.case.now.lengths;
}

pub planned_text-text-requires : goal.planned_text-text-requires
planned_text-text-requires c =
    record { chain = subst (λ ch. IsListed (length c.in_ok-certified.certified.plan.timings) ch) (sym c.messages.ensures) c.in_ok-certified.ensures.listed }

pub returns : goal.returns
returns c =
    let found = c.in_ok-certified in
    let start = start_of found.certified.plan.starts in
    let instance = instance_of c.args.case.now in
    IfOk-weaker c.planned_text-text.result _ _
    (λ text told rule. record {
      starts = found.certified.plan.starts;
      chain = found.certified.chain.messages;
      chained = found.ensures.certified;
      spent = subst (λ ch. TellsSpent c.args.locks c.args.label c.args.columns instance start ch (string_bytes text)) c.messages.ensures told;
    })
    c.planned_text-text.ensures

use Rattle.std.proofs.Common.{ℕ, List, length, sym, ◌∙◌, ap, subst}
use Rattle.std.proofs.lemmas.Result.{IfOk-weaker}
use Rattle.waff_assign.specs.Case.{instance_of}
use Rattle.waff_plan.specs.Chain.{IsListed}
use Rattle.waff_plan.specs.Timetable.{timings_of}
use Rattle.waff_plan.specs.Timing.{start_of, work_of}
use Rattle.waff_plan.specs.declared.timing.Timing.{Timing}
use Rattle.waff_plan_text.specs.Lines.{text_of}
use Rattle.waff_plan_text.specs.Spelling.{unlimited_lines}
use Rattle.waff_tool.proofs.CertificateLemmas.{as_many}
use Rattle.waff_tool.proofs.plans.least_plan_text.Goals as goal

pub invariant_of-planned : goal.invariant_of-planned
invariant_of-planned c = record {
  version = c.in_ok-certified.ensures.version;
  timings = c.in_ok-certified.ensures.timings;
  lengths = as_many c.args.case.now.trace.now.messages _ _ c.in_ok-certified.ensures.timings c.args.case.now.lengths;
}

pub unlimited_text-text-requires : goal.unlimited_text-text-requires
unlimited_text-text-requires c =
    record { chain = subst (λ ch. IsListed (length c.in_ok-certified.certified.plan.timings) ch) (sym c.messages.ensures) c.in_ok-certified.ensures.listed }

pub returns : goal.returns
returns c =
    let found = c.in_ok-certified in
    let instance = instance_of c.args.case.now in
    let starts = found.certified.plan.starts in
    let text_for : List Timing → List ℕ → List ℕ = λ timings chain. text_of
    (unlimited_lines instance.trace.version instance.tree instance.assigned (work_of timings) (start_of starts) chain) in
    IfOk-weaker c.unlimited_text-text.result _ _
    (λ text lines. record {
      starts = starts;
      chain = found.certified.chain.messages;
      certified = found.ensures.certified;
      lines = lines ∙ ap (λ ts. text_for ts c.messages.result.now) found.ensures.timings ∙ ap (text_for (timings_of instance.trace.messages)) c.messages.ensures;
    })
    c.unlimited_text-text.ensures

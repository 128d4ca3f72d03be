use Rattle.std.proofs.Common.{ℕ, List, length, string_bytes, sym, ◌∙◌, ap, subst}
use Rattle.std.proofs.lemmas.Result.{IfOk-weaker}
use Rattle.waff_assign.specs.Case.{instance_of}
use Rattle.waff_plan.specs.Chain.{IsListed}
use Rattle.waff_plan.specs.Timetable.{Timetable}
use Rattle.waff_plan.specs.Timing.{start_of}
use Rattle.waff_tool.specs.WhereText.{TellsSpent}
use Rattle.waff_tool.proofs.CertificateLemmas.{as_many}
use Rattle.waff_tool.proofs.wheres.worker_text.Goals as goal

pub invariant_of-planned : goal.invariant_of-planned
invariant_of-planned c =
    let timings = ap (λ (t : Timetable). t.timings) c.plan-plan.ensures.plan ∙ c.in_ok-bounded.ensures.timings in
    record {
      version = ap (λ (t : Timetable). t.version) c.plan-plan.ensures.plan ∙ c.in_ok-bounded.ensures.version;
      timings = timings;
      lengths = as_many c.args.case.now.trace.now.messages _ _ timings c.args.case.now.lengths;
    }

pub planned_text-text-requires : goal.planned_text-text-requires
planned_text-text-requires c = record {
  chain = subst (λ (t : Timetable). IsListed (length t.timings) c.messages.result.now) (sym c.plan-plan.ensures.plan)
      (subst (λ ch. IsListed (length c.in_ok-bounded.bounded.made.plan.timings) ch) (sym c.messages.ensures) c.in_ok-bounded.ensures.listed);
}

pub returns : goal.returns
returns c =
    let found = c.in_ok-bounded in
    let made = found.bounded.made.plan in
    let instance = instance_of c.args.case.now in
    let IsText : Timetable → List ℕ → List ℕ → Type 0 = λ plan chain text. TellsSpent c.args.locks c.args.label c.args.columns instance (start_of plan.starts) chain text in
    IfOk-weaker c.planned_text-text.result _ _
    (λ text told. record {
      starts = made.starts;
      chain = found.bounded.chain.messages;
      chained = found.ensures.bounded;
      spent = subst (λ ch. IsText made ch (string_bytes text)) c.messages.ensures
          (subst (λ plan. IsText plan c.messages.result.now (string_bytes text)) c.plan-plan.ensures.plan told);
    })
    c.planned_text-text.ensures

use Rattle.std.proofs.Common.{ℕ, List, length, sym, ◌∙◌, ap, subst}
use Rattle.std.proofs.lemmas.Result.{IfOk-weaker}
use Rattle.waff_assign.specs.Case.{instance_of}
use Rattle.waff_plan.specs.Chain.{IsListed}
use Rattle.waff_plan.specs.Timetable.{Timetable, timings_of}
use Rattle.waff_plan.specs.Timing.{start_of, work_of}
use Rattle.waff_plan.specs.declared.timing.Timing.{Timing}
use Rattle.waff_plan_text.specs.Lines.{text_of}
use Rattle.waff_plan_text.specs.Spelling.{worker_lines}
use Rattle.waff_tool.proofs.CertificateLemmas.{as_many}
use Rattle.waff_tool.proofs.plans.worker_plan_text.Goals as goal

pub invariant_of-planned : goal.invariant_of-planned
invariant_of-planned c =
    let timings = ap (λ (t : Timetable). t.timings) c.plan-plan.ensures.plan ∙ c.in_ok-bounded.ensures.timings in
    record {
      version = ap (λ (t : Timetable). t.version) c.plan-plan.ensures.plan ∙ c.in_ok-bounded.ensures.version;
      timings = timings;
      lengths = as_many c.args.case.now.trace.now.messages _ _ timings c.args.case.now.lengths;
    }

pub worker_text-text-requires-clause-seats : goal.worker_text-text-requires-clause-seats
worker_text-text-requires-clause-seats c =
    ap length c.seats.ensures.seats ∙ c.seats.ensures.seating.seats_count ∙ sym (ap (λ (t : Timetable). length t.timings) c.plan-plan.ensures.plan)

pub worker_text-text-requires-clause-chain : goal.worker_text-text-requires-clause-chain
worker_text-text-requires-clause-chain c =
    let found = c.in_ok-bounded.bounded in
    subst (λ (t : Timetable). IsListed (length t.timings) c.messages-chain.result.now) (sym c.plan-plan.ensures.plan)
    (subst (λ ch. IsListed (length found.made.plan.timings) ch) (sym c.messages-chain.ensures) c.in_ok-bounded.ensures.listed)

pub returns : goal.returns
returns c =
    let found = c.in_ok-bounded in
    let made = found.bounded.made in
    let instance = instance_of c.args.case.now in
    let text_for : List Timing → List ℕ → List ℕ → List ℕ → List ℕ = λ timings starts seats chain. text_of
    (worker_lines instance.trace.version instance.tree instance.assigned (work_of timings) c.args.k (start_of starts) seats chain) in
    IfOk-weaker c.worker_text-text.result _ _
    (λ text lines. record {
      starts = made.plan.starts;
      workers = made.seats;
      chain = found.bounded.chain.messages;
      bounded = found.ensures.bounded;
      seated = found.ensures.seated;
      lines = lines
          ∙ ap (λ (t : Timetable). text_for t.timings t.starts c.seats.result.now c.messages-chain.result.now) c.plan-plan.ensures.plan
          ∙ ap (λ seats. text_for made.plan.timings made.plan.starts seats c.messages-chain.result.now) c.seats.ensures.seats
          ∙ ap (λ ts. text_for ts made.plan.starts made.seats c.messages-chain.result.now) found.ensures.timings
          ∙ ap (text_for (timings_of instance.trace.messages) made.plan.starts made.seats) c.messages-chain.ensures;
    })
    (rw c.number.ensures.number at c.worker_text-text.ensures)

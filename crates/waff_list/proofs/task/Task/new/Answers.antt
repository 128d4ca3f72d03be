use Rattle.std.proofs.Common.{◌≡◌, List, length, All, arith, ap, sym, subst, ◌∙◌}
use Rattle.waff_model.specs.declared.message.Message.{Message}
use Rattle.waff_plan.specs.Obeys.{AwaitsEarlier}
use Rattle.waff_plan.specs.Timing.{IsTiming, work_of}
use Rattle.waff_plan.specs.Timetable.{timings_of}
use Rattle.waff_list.specs.Planning.{Fits}
use Rattle.waff_list.proofs.Services.{fits_of}
use Rattle.waff_plan.specs.declared.timing.Timing.{Timing}
use Rattle.waff_plan.proofs.TimingLemmas.{length-timings_of}
use Rattle.waff_list.proofs.task.Task.new.Goals as goal

-- as many timings as messages
as_many : (timings : List Timing) (messages : List Message) → timings ≡ timings_of messages → length timings ≡ length messages
as_many timings messages is = ap length is ∙ length-timings_of messages

pub tails-requires-clause-few : goal.tails-requires-clause-few
tails-requires-clause-few c =
    omega (arith, as_many c.as_slice.result.now c.args.trace.now.messages (c.as_slice.ensures.value ∙ c.in_ok-timings.ensures.each), c.timings.ensures.few)

pub invariant_of-result-clause-few : goal.invariant_of-result-clause-few
invariant_of-result-clause-few c = omega (arith, as_many c.in_ok-timings.timings.items c.args.trace.now.messages c.in_ok-timings.ensures.each, c.timings.ensures.few)

pub invariant_of-result-clause-small : goal.invariant_of-result-clause-small
invariant_of-result-clause-small c = subst (λ ts. All IsTiming ts) (sym c.in_ok-timings.ensures.each) c.timings.ensures.are.small

pub invariant_of-result-clause-earlier : goal.invariant_of-result-clause-earlier
invariant_of-result-clause-earlier c = subst (λ (ts : List Timing). AwaitsEarlier (work_of ts)) (sym c.in_ok-timings.ensures.each) c.timings.ensures.are.earlier

pub tails-requires-clause-fits : goal.tails-requires-clause-fits
tails-requires-clause-fits c =
    subst (λ (ts : List Timing). Fits c.args.service.now (work_of ts)) (sym (c.as_slice.ensures.value ∙ c.in_ok-timings.ensures.each))
    (fits_of c.args.service.now c.args.trace.now.version c.args.trace.now.messages c.requires.serves c.timings.ensures.are)

use Rattle.std.proofs.Common.{ℕ, length, ap, sym, ◌∙◌}
use Rattle.waff_plan.proofs.TimingLemmas.{length-timings_of}
use Rattle.waff_line.specs.Machine.{State}
use Rattle.waff_line.proofs.Going.{fresh, stands_opening}
use Rattle.waff_line.proofs.line.Line.of.Goals as goal

pub invariant_of-result : goal.invariant_of-result
invariant_of-result c =
    stands_opening c.in_ok-of.field-0 c.args.workers c.len-count.result
    (c.len-count.ensures.count ∙ sym (ap length c.in_ok-of.ensures.timings ∙ length-timings_of c.args.case.trace.now.messages))
    c.in_ok-none.field-0 c.in_ok-none.ensures c.in_ok-of.ensures.queue

pub returns-clause-opening : goal.returns-clause-opening
returns-clause-opening c =
    ap (λ (p : State × ℕ). p.0) c.in_ok-none.ensures
    ∙ ap fresh (c.len-count.ensures.count ∙ sym (ap length c.in_ok-of.ensures.timings ∙ length-timings_of c.args.case.trace.now.messages))

use Rattle.std.proofs.Common.{◌≡◌, ℕ, List, [], length, ap, sym, ◌∙◌, subst, arith}
use Rattle.std.specs.List.{range_with_len}
use Rattle.waff_plan.specs.Awaiting.{AreAwaiting}
use Rattle.waff_plan.specs.Obeys.{AwaitsEarlier}
use Rattle.waff_plan.specs.Timetable.{AreTimings}
use Rattle.waff_plan.specs.Timing.{work_of}
use Rattle.waff_plan.specs.declared.timing.Timing.{Timing}
use Rattle.waff_plan.proofs.TimingLemmas.{length-timings_of}
use Rattle.waff_line.specs.Entered.{ready_in}
use Rattle.waff_line.specs.Lined.{AreFirstDue}
use Rattle.waff_line.specs.Machine.{Course}
use Rattle.waff_line.specs.Scaled.{scaled}
use Rattle.waff_line.proofs.Entering.{due_opening, placed_opening}
use Rattle.waff_line.proofs.Keeping.{first_by_issue, first_by_number, lined_opening}
use Rattle.waff_line.proofs.Opening.{awaiting_opening}
use Rattle.waff_line.proofs.Readying.{waiting_opening}
use Rattle.waff_line.proofs.Scaling.{awaiting_scaled, none_scaled}
use Rattle.waff_line.proofs.queue.Queue.of.Goals as goal

pub awaiting-requires : goal.awaiting-requires
awaiting-requires c =
    let many = ap length (c.as_slice.ensures.value ∙ c.in_ok-timings.ensures.each) ∙ length-timings_of c.args.case.trace.now.messages in
    record {
      few = omega (arith, many, c.in_ok-timings.ensures.few);
      earlier = subst (λ (ts : List Timing). AwaitsEarlier (work_of ts)) (sym (c.as_slice.ensures.value ∙ c.in_ok-timings.ensures.each)) c.in_ok-timings.ensures.are.earlier;
    }

pub first_due-requires : goal.first_due-requires
first_due-requires c =
    let many = ap length (c.as_slice-2.ensures.value ∙ c.in_ok-timings.ensures.each) ∙ length-timings_of c.args.case.trace.now.messages in
    let few = c.in_ok-timings.ensures.few in
    record { few = omega (arith, many, few) }

pub returns-clause-queue : goal.returns-clause-queue
returns-clause-queue c workers =
    let case = c.args.case in
    let timings = c.in_ok-timings.timings.items in
    let version = case.trace.now.version in
    let are = subst (λ (ts : List Timing). AreTimings version ts) (sym c.in_ok-timings.ensures.each) c.in_ok-timings.ensures.are in
    let many : length timings ≡ length case.assigned.now
    = ap length c.in_ok-timings.ensures.each ∙ length-timings_of case.trace.now.messages ∙ sym case.lengths in
    let order = c.in_ok-order.order in
    let course : Course
    = record { version = version; tree = case.tree.now; assigned = case.assigned.now; work = scaled c.args.tick (work_of timings); workers = workers } in
    let first = subst (λ (ts : List Timing). AreFirstDue (scaled c.args.tick (work_of ts)) (length ts) c.in_ok-due.due) c.as_slice-2.ensures.value c.in_ok-due.ensures in
    record {
      many = many;
      timings = are;
      awaiting = λ going.
          awaiting_opening course c.in_ok-awaits.awaits
          (awaiting_scaled c.args.tick (work_of timings) [] c.in_ok-awaits.awaits
          (subst (λ (ts : List Timing). AreAwaiting (work_of ts) [] c.in_ok-awaits.awaits) c.as_slice.ensures.value c.in_ok-awaits.ensures));
      lined = λ going.
          lined_opening course order.spans.now order.joining order.messages.items c.in_ok-due.due
          (λ without. none_scaled c.args.tick (work_of timings) (are.alone without)) many c.in_ok-order.ensures.messages c.in_ok-order.ensures.joined
          first;
      entered = λ going. record {
        entered = [];
        issued = due_opening course c.in_ok-due.due first;
        placed = placed_opening course order.messages.items (λ has. c.in_ok-order.ensures.messages ∙ first_by_issue version (length case.assigned.now) has)
            (λ none.
            c.in_ok-order.ensures.messages ∙ first_by_number version (length case.assigned.now) none ∙ ap (λ (n : ℕ). range_with_len 1 n) (sym many));
        waiting = waiting_opening course order.joining order.messages.items c.in_ok-waiting.waiting.waits (ready_in c.in_ok-waiting.waiting)
            c.len.result (omega (arith, c.len.ensures, c.in_ok-timings.timings.ok)) c.in_ok-waiting.ensures.waits c.in_ok-waiting.ensures.ready;
      };
    }

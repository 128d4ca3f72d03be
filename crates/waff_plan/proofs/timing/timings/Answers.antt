use Rattle.std.proofs.Common.{◌≡◌, ◌+◌, ◌-◌, ◌∷◌, ◌++◌, [], length, map, arith, sym, ◌∙◌, ap, subst}
use Rattle.std.specs.List.{range_with_len}
use Rattle.std.proofs.lemmas.List.FromFn.{length-map-range_with_len, map-range_with_len_more}
use Rattle.std.proofs.lemmas.Option.{get_or_from_slice_get}
use Rattle.waff_model.specs.declared.message.Message.{Message}
use Rattle.waff_plan.specs.Clients.{client_of, one_before}
use Rattle.waff_plan.specs.LastMessages.{AreLast}
use Rattle.waff_plan.specs.Timetable.{clients_of, message_of, no_message, timing_after, timing_at}
use Rattle.waff_plan.specs.declared.timing.Timing.{Timing}
use Rattle.waff_plan.proofs.TimingLemmas.{are_timings, client_is}
use Rattle.waff_plan.proofs.timing.timings.Goals as goal

pub loop-n-preserved : goal.loop-n-preserved
loop-n-preserved c =
    let messages = c.args.trace.now.messages in
    let clients = clients_of messages in
    let n = c.loop-n.n in
    let message = c.message-message.result.now in
    let is : message_of messages n ≡ message = get_or_from_slice_get messages (n - 1) message no_message c.message-message.ensures.message in
    let named : client_of clients n ≡ c.as_str.result.now
    = client_is messages n ∙ ap (λ (x : Message). x.client) is ∙ sym c.as_str.ensures in
    let before : c.in_ok-follows.follows ≡ one_before clients n = c.in_ok-follows.ensures.before clients c.loop-n.invariant.last named in
    let this : c.in_ok-timing.timing ≡ timing_at messages n
    = c.in_ok-timing.ensures ∙ ap (timing_after message) before ∙ sym (ap (λ (x : Message). timing_after x (one_before clients n)) is) in
    let next : n - 1 + 1 ≡ n + 1 - 1 = omega (arith, c.loop-n.auto.n) in
    let back : n ≡ n + 1 - 1 = omega arith in
    record {
      last = subst (λ k. AreLast clients k c.note_last.new.last) back (c.in_ok-follows.ensures.last clients c.loop-n.invariant.last named);
      each = c.push_reserved.ensures.items ∙ ap (λ xs. xs ++ c.in_ok-timing.timing ∷ []) c.loop-n.invariant.each
          ∙ ap (λ (t : Timing). map (timing_at messages) (range_with_len 1 (n - 1)) ++ t ∷ []) this
          ∙ sym (map-range_with_len_more (timing_at messages) 1 (n - 1) n (omega (arith, c.loop-n.auto.n)))
          ∙ ap (λ k. map (timing_at messages) (range_with_len 1 k)) next;
      room = c.push_reserved.ensures.capacity ∙ c.loop-n.invariant.room;
    }

pub returns-clause-each : goal.returns-clause-each
returns-clause-each c = c.loop-n.invariant.each
    ∙ ap (λ k. map (timing_at c.args.trace.now.messages) (range_with_len 1 k)) (omega (arith, c.loop-n-test.false, c.len-n-end.ensures.count, c.loop-n.auto.n-end))

pub returns-in_err-timings-clause-are : goal.returns-in_err-timings-clause-are
returns-in_err-timings-clause-are c = are_timings c.args.trace.now c.len-messages.ensures.trace

pub returns-in_err-follows-clause-are : goal.returns-in_err-follows-clause-are
returns-in_err-follows-clause-are c = are_timings c.args.trace.now c.len-messages.ensures.trace

pub returns-in_err-timing-clause-are : goal.returns-in_err-timing-clause-are
returns-in_err-timing-clause-are c = are_timings c.args.trace.now c.len-messages.ensures.trace

pub returns-clause-are : goal.returns-clause-are
returns-clause-are c = are_timings c.args.trace.now c.len-messages.ensures.trace

pub push_reserved-requires : goal.push_reserved-requires
push_reserved-requires c =
    let many = ap length c.loop-n.invariant.each ∙ length-map-range_with_len (timing_at c.args.trace.now.messages) 1 (c.loop-n.n - 1) in
    omega (arith, many, c.loop-n.timings.ok.0, c.loop-n.invariant.room, c.loop-n-test.true, c.len-n-end.ensures.count, c.loop-n.auto.n)

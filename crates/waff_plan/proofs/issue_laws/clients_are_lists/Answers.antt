-- A message that is of no client, and whose list has all that it awaits, has the same timing but for its list.
use Rattle.std.proofs.Common.{◌≡◌, ℕ, ◌-◌, List, length, arith, ◌∙◌, sym, ap}
use Rattle.std.proofs.lemmas.List.FromFn.{get_or-map-range_with_len, length-map-range_with_len}
use Rattle.waff_model.specs.declared.message.Message.{Message}
use Rattle.waff_plan.specs.Clients.{one_before}
use Rattle.waff_plan.specs.IssueLaws.{AreSameWork, all_by_list, by_list}
use Rattle.waff_plan.specs.Timetable.{clients_of, message_of, no_message, timing_after, timing_at, timings_of, work_of_messages}
use Rattle.waff_plan.specs.Timing.{awaits_by, timing_of}
use Rattle.waff_plan.specs.Work.{IsAmongFirst}
use Rattle.waff_plan.specs.declared.timing.Awaited.TheVariants.{Every}
use Rattle.waff_plan.specs.declared.timing.Timing.{Timing}
use Rattle.waff_plan.proofs.TimingLemmas.{client_is, length-timings_of, none_before, timing_is}
use Rattle.waff_plan.proofs.issue_laws.clients_are_lists.Goals as goal

module _ (messages : List Message) where
  abbrev all : List Message
  all = all_by_list messages

  many : length all ≡ length messages
  many = length-map-range_with_len (by_list messages) 1 (length messages)

  same : AreSameWork (work_of_messages all) (work_of_messages messages)
  same = record {
    count = length-timings_of all ∙ many ∙ sym (length-timings_of messages);
    costs = λ m number. ap (λ (t : Timing). t.cost) (here m (known m number)) ∙ sym (ap (λ (t : Timing). t.cost) (there m (known m number)));
    floors = λ m number.
        let one = ap (λ (t : Timing). t.floor) (here m (known m number)) in
        let other = ap (λ (t : Timing). t.floor) (there m (known m number)) in
        omega (arith, one, other);
    awaits = λ m number. ap (awaits_by Every) (here m (known m number)) ∙ sym (ap (awaits_by Every) (there m (known m number)));
  }
    where
      known : (m : ℕ) → IsAmongFirst (length (timings_of messages)) m → IsAmongFirst (length messages) m
      known m number = record { from = number.from; to = omega (arith, number.to, length-timings_of messages) }

      message_is : (m : ℕ) → IsAmongFirst (length messages) m → message_of all m ≡ by_list messages m
      message_is m number =
          get_or-map-range_with_len (by_list messages) 1 (length messages) (m - 1) m no_message (omega (arith, number.from, number.to)) (omega (arith, number.from))

      alone : (m : ℕ) → IsAmongFirst (length messages) m → one_before (clients_of all) m ≡ 0
      alone m number = none_before (clients_of all) m (client_is all m ∙ ap (λ (x : Message). x.client) (message_is m number))

      here : (m : ℕ) → IsAmongFirst (length messages) m → timing_of (timings_of all) m ≡ timing_after (by_list messages m) 0
      here m number =
          timing_is all m (record { from = number.from; to = omega (arith, number.to, many) })
          ∙ ap (λ (x : Message). timing_after x (one_before (clients_of all) m)) (message_is m number)
          ∙ ap (timing_after (by_list messages m)) (alone m number)

      there : (m : ℕ) → IsAmongFirst (length messages) m → timing_of (timings_of messages) m ≡ timing_at messages m
      there m number = timing_is messages m number

pub returns : goal.returns
returns c = same

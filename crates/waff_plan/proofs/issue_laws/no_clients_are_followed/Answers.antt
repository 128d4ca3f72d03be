use Rattle.std.proofs.Common.{◌≡◌, ℕ, ◌-◌, List, [], length, arith}
use Rattle.waff_model.specs.Messages.{no_client}
use Rattle.waff_model.specs.declared.message.Message.{Message}
use Rattle.waff_plan.specs.IssueLaws.{AreOfNoClient}
use Rattle.waff_plan.specs.Timetable.{message_of, no_message}
use Rattle.waff_plan.specs.Work.{IsAmongFirst}
use Rattle.waff_plan.proofs.TimingLemmas.{floor_alone, timings_alone}
use Rattle.waff_plan.proofs.issue_laws.no_clients_are_followed.Goals as goal

at : (messages : List Message) → AreOfNoClient messages → (m : ℕ) → IsAmongFirst (length messages) m
    → ((message_of messages m).client ≡ no_client) × (((message_of messages m).think ≡ 0) × ((message_of messages m).after ≡ []))
at messages alone m number = alone (m - 1) no_message (omega (arith, number.from, number.to))

pub returns : goal.returns
returns c = record {
  none = λ messages alone. timings_alone messages (λ m number. (at messages alone m number).0) (λ m number. (at messages alone m number).1.1);
  released = λ messages alone m number. let one = at messages alone m number in floor_alone messages m number one.0 one.1.0;
}

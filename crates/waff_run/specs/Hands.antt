-- What a run asks for, and the hands by which it asks.
use Rattle.std.specs.Prelude.{◌≡◌, ℕ, ◌-◌, List, [], Option, Some, None, IfSome, length, slice_get, slice_index_or}
use Rattle.waff_model.specs.Numbers.{IsAmongFirst}
use Rattle.waff_model.specs.declared.message.Message.{Message}
use Rattle.waff_line.specs.Machine.{Course, HasBegun, HasEnded, IsRunning, State}
use Rattle.waff_run.specs.Asked.{Access, AsksMessage}
use Rattle.waff_run.specs.Places.{Placing}
use Rattle.waff_run.specs.declared.syncing.Syncs.{Syncs}
use Rattle.waff_run.specs.declared.syncing.Syncs.TheVariants as syncs

-- what a run asks for: its messages, where cells lie, and which files are synced at the end of each message
pub record Asking : Type 0 where
  pub placing : Placing
  pub messages : List Message
  pub syncs : List Syncs

abbrev pub asking_of : Placing → List Message → List Syncs → Asking
asking_of placing messages syncs =
    record { placing = placing; messages = messages; syncs = syncs }

-- what a run of nothing asks for
abbrev pub no_asking : Asking
no_asking = record { placing = record { spaces = []; files = 0; bytes = 0 }; messages = []; syncs = [] }

-- what is asked for message n
pub record AsksNumber (asking : Asking) (n : ℕ) (asked : List Access) : Type 0 where
  pub message : Message
  pub number : IsAmongFirst (length asking.messages) n
  pub is : slice_get asking.messages (n - 1) ≡ Some message
  pub asks : AsksMessage asking.placing (slice_index_or asking.syncs (n - 1) syncs.None) message.ops asked

-- what is known of a hand: none where it is out
abbrev pub Slot : Type 0
Slot = Option (Option (List Access))

-- a hand is there, and P is true of what was asked by it, as far as that is known
abbrev pub IsThere : Slot → (List Access → Type 0) → Type 0
IsThere None P = ⊥
IsThere (Some log) P = IfSome log P

-- the hand of message n
abbrev pub hand_of : List Slot → ℕ → Slot
hand_of hands n = slice_index_or hands (n - 1) None

-- there is a hand for each of so many messages. Nothing was asked by them, as far as that is known
pub record AreFresh (count : ℕ) (hands : List Slot) : Type 0 where
  pub many : length hands ≡ count
  pub each : (n : ℕ) → IsAmongFirst count n → IsThere (hand_of hands n) (λ asked. asked ≡ [])

-- there is a hand for each message, and what was asked by it is what is asked for the message: all of that once, in order, and
-- nothing else
pub record AreAsked (asking : Asking) (hands : List Slot) : Type 0 where
  pub many : length hands ≡ length asking.messages
  pub each : (n : ℕ) → IsAmongFirst (length asking.messages) n
      → IsThere (hand_of hands n) (AsksNumber asking n)

-- the hands of a run at hand: by that of a message which has not begun nothing was asked; that of one which runs is out; and
-- by that of one which has ended was asked what is asked for it
pub record AreHands (course : Course) (asking : Asking) (s : State) (hands : List Slot) : Type 0 where
  pub count : course.work.count ≡ length asking.messages
  pub turns : length s.turns ≡ length asking.messages
  pub many : length hands ≡ length asking.messages
  pub waits : (n : ℕ) → IsAmongFirst (length asking.messages) n → ¬ HasBegun s n
      → IsThere (hand_of hands n) (λ asked. asked ≡ [])
  pub runs : (n : ℕ) → IsAmongFirst (length asking.messages) n → IsRunning s n
      → hand_of hands n ≡ None
  pub ended : (n : ℕ) → IsAmongFirst (length asking.messages) n → HasEnded s n
      → IsThere (hand_of hands n) (AsksNumber asking n)

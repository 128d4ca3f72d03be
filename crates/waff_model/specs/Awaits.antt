-- The lists of the messages that a message awaits besides the one before it of its client.
use Rattle.std.specs.Prelude.{◌≡◌, ℕ, ◌+◌, ◌<◌, ◌≤◌, List, All, AllPairs, Some, sum_by, length, slice_get}
use Rattle.waff_model.specs.declared.awaits.Await.{Await}
use Rattle.waff_model.specs.declared.limits.TheConstants.{MAX_THINK}
use Rattle.waff_model.specs.declared.message.Message.{Message}

-- a list of message n: earlier messages by rising numbers, each with a gap within the limit
pub record IsList (n : ℕ) (after : List Await) : Type 0 where
  pub from : All (λ a. 1 ≤ a.message) after
  pub earlier : All (λ a. a.message < n) after
  pub rising : AllPairs (λ a b. a.message < b.message) after
  pub gaps : All (λ a. a.gap ≤ MAX_THINK) after

-- each of these messages, the first of which has this number, has such a list
abbrev pub AreLists : ℕ → List Message → Type 0
AreLists first messages =
    (k : ℕ) (message : Message) → slice_get messages k ≡ Some message → IsList (first + k) message.after

-- how many messages all lists have
abbrev pub awaited_in : List Message → ℕ
awaited_in messages = sum_by (λ message. length message.after) messages

-- What the messages of a part of a trace hold.
use Rattle.std.specs.Prelude.{◌≡◌, ℕ, ◌+◌, ◌<◌, List, length, All, Some, slice_get, slice_index_or}
use Rattle.waff_model.specs.Layout.{Hierarchy}
use Rattle.waff_model.specs.declared.cell.Cell.{Cell}
use Rattle.waff_model.specs.declared.message.Message.{Message}
use Rattle.waff_assign.specs.Held.{Held, IsHeldWithin, nothing}
use Rattle.waff_assign.specs.Lowest.{IsHeldBy}

-- a message holds what it should, of the tree and of the locks
pub record IsHeldRightly (layout : Hierarchy) (locks : List Cell) (message : Message) (held : Held) : Type 0 where
  pub holds : IsHeldBy layout locks message held
  pub known : IsHeldWithin (length layout.tree) held
  pub below : All (λ u. u.lock < length locks) held.uses

-- so do the messages behind the first so many
abbrev pub AreHeldBehind : Hierarchy → List Cell → List Message → ℕ → List Held → Type 0
AreHeldBehind layout locks messages before helds =
    (k : ℕ) (message : Message) → k < length helds → slice_get messages (before + k) ≡ Some message
    → IsHeldRightly layout locks message (slice_index_or helds k nothing)

-- and these are so many
pub record IsPart (layout : Hierarchy) (locks : List Cell)
    (messages : List Message) (before end : ℕ) (helds : List Held) : Type 0 where
  pub count : before + length helds ≡ end
  pub each : AreHeldBehind layout locks messages before helds

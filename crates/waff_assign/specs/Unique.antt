-- One thing each: the lowest affinity of a footprint, the assignment of a trace, and the first lock that two contend for.
use Rattle.std.specs.Prelude.{◌≡◌, ℕ, List, Contains}
use Rattle.waff_model.specs.Unique.{AtMostOne}
use Rattle.waff_model.specs.Layout.{Hierarchy}
use Rattle.waff_model.specs.declared.cell.Cell.{Cell}
use Rattle.waff_model.specs.declared.message.Message.{Message}
use Rattle.waff_assign.specs.Held.{Held, IsFirstOfContended}
use Rattle.waff_assign.specs.Lowest.{IsLowest, IsAssignment}

-- two lowest affinities that cover the same cells are equal
abbrev pub LowestIsOne : Hierarchy → List Cell → Type 0
LowestIsOne layout cells =
    (a b : ℕ) → IsLowest layout (Contains cells) a → IsLowest layout (Contains cells) b → a ≡ b

-- two assignments of a trace are equal
abbrev pub AssignmentIsOne : Hierarchy → List Message → Type 0
AssignmentIsOne layout messages =
    (assigned other : List Held) → IsAssignment layout messages assigned
    → IsAssignment layout messages other
    → assigned ≡ other

-- two first locks for which the same two contend are equal, and where the one is there the other is
abbrev pub FirstOfContendedIsOne : Type 0
FirstOfContendedIsOne = (one other : Held) → AtMostOne (IsFirstOfContended one other)

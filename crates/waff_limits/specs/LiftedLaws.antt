-- What holds of messages that run high, and of the cells that lift them.
use Rattle.std.specs.Prelude.{◌≡◌, ◌↔◌, ℕ, ◌<◌, List, All, Bool, Contains, count_by, length, sum_by}
use Rattle.waff_model.specs.Layout.{Hierarchy, IsCell, IsLayout, owner_of}
use Rattle.waff_model.specs.declared.cell.Cell.{Cell}
use Rattle.waff_assign.specs.Lowest.{IsLowest}
use Rattle.waff_limits.specs.Lifted.{AreLifting}
use Rattle.waff_limits.specs.declared.lifted.Lift.{Lift}
use Rattle.waff_limits.specs.declared.why_rows.Row.{Row}

-- cells of a layout have two that lift what uses them to its affinity
abbrev pub SomeLift : Hierarchy → List Cell → Type 0
SomeLift layout cells =
    (a : ℕ) → IsLayout layout → 0 < length cells → All (IsCell layout.spaces) cells
    → IsLowest layout (Contains cells) a
    → (cell : Cell) × (other : Cell) × AreLifting layout (Contains cells) a cell other

-- and no others
abbrev pub LiftingIsOne : Hierarchy → List Cell → Type 0
LiftingIsOne layout cells =
    (a : ℕ) (cell other one another : Cell) → AreLifting layout (Contains cells) a cell other
    → AreLifting layout (Contains cells) a one another → (cell ≡ one) × (other ≡ another)

-- the first cell lifts alone, with no other one, exactly where its owner is the affinity
abbrev pub AloneIsOwner : Hierarchy → List Cell → Type 0
AloneIsOwner layout cells =
    (a : ℕ) (cell other : Cell) → IsLayout layout → IsLowest layout (Contains cells) a
    → AreLifting layout (Contains cells) a cell other
    → (cell ≡ other) ↔ (a ≡ owner_of layout.spaces cell)

-- each lift is told of in one row, so that the rows have as many messages as there are lifts, and these
-- cost as much
pub record AreTold (alike : Lift → Lift → Bool) (lifts : List Lift) (rows : List Row) : Type 0 where
  pub once : All (λ lift. count_by (λ row. alike row.first lift) rows ≡ 1) lifts
  pub messages : sum_by (λ row. row.messages) rows ≡ length lifts
  pub costs : sum_by (λ row. row.cost) rows ≡ sum_by (λ lift. lift.cost) lifts

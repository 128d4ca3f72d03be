-- What more locks make of who excludes whom.
use Rattle.std.specs.Prelude.{◌≡◌, ◌⊎◌, List, All, Contains, true}
use Rattle.waff_model.specs.Cells.{cells_written}
use Rattle.waff_model.specs.Layout.{Hierarchy, IsLocked, Space, are_locked, locking_of, owner_of}
use Rattle.waff_model.specs.declared.cell.Cell.{Cell}
use Rattle.waff_model.specs.declared.locking.Locking.TheVariants.{Shared}
use Rattle.waff_model.specs.declared.op.Op.{Op}
use Rattle.waff_assign.specs.Footprint.{IsInFootprint}

-- both name the cell, and if its space has shared locks one of them writes it
pub record MeetAt (layout : Hierarchy) (one other : List Op) (cell : Cell) : Type 0 where
  pub first : IsInFootprint one cell
  pub second : IsInFootprint other cell
  pub written : locking_of layout.spaces cell ≡ Shared
      → Contains (cells_written one) cell ⊎ Contains (cells_written other) cell

abbrev pub Meet : Hierarchy → List Op → List Op → Type 0
Meet layout one other = (cell : Cell) × MeetAt layout one other cell

-- all spaces have locks
abbrev pub AreAllLocked : List Space → Type 0
AreAllLocked spaces = All (λ space. are_locked space.locks ≡ true) spaces

-- over the same tree each cell has its owner still, a lock where it had one, and a shared one where it had that
pub record HasMoreLocks (layout more : Hierarchy) : Type 0 where
  pub tree : more.tree ≡ layout.tree
  pub owners : (cell : Cell) → owner_of more.spaces cell ≡ owner_of layout.spaces cell
  pub locked : (cell : Cell) → IsLocked layout.spaces cell → IsLocked more.spaces cell
  pub shared : (cell : Cell) → locking_of layout.spaces cell ≡ Shared → locking_of more.spaces cell ≡ Shared

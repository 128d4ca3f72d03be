-- What holds of the places of all cells.
use Rattle.std.specs.Prelude.{◌≡◌, ◌≢◌, ◌⊎◌, ℕ, ◌+◌, ◌-◌, ◌<◌, ◌≤◌, List, Some, All, Contains, slice_get, take}
use Rattle.waff_model.specs.Cells.{cells_of, cells_written}
use Rattle.waff_model.specs.Tree.{Excludes}
use Rattle.waff_model.specs.Layout.{Hierarchy, IsCell, IsLayout, IsLocked, locking_of, owner_of, owners_at}
use Rattle.waff_model.specs.declared.cell.Cell.{Cell}
use Rattle.waff_model.specs.declared.locking.Locking.TheVariants.{Shared}
use Rattle.waff_model.specs.declared.message.Message.{Message}
use Rattle.waff_model.specs.declared.op.Op.{Op}
use Rattle.waff_assign.specs.Held.{ExcludeEachOther, Held}
use Rattle.waff_assign.specs.Lowest.{Covers, IsAssignment, IsInFootprint, IsUnlockedAmong}
use Rattle.waff_assign.specs.Order.{held_of}
use Rattle.waff_run.specs.Places.{files_of, place_of, placing_of, spot_of}
use Rattle.waff_run.specs.declared.places.Spot.{Spot}

-- where a cell of a layout lies, when cells have so many bytes
abbrev pub lies : Hierarchy → ℕ → Cell → Spot
lies layout bytes cell = spot_of (placing_of layout.spaces bytes) cell

-- cells of so many bytes at these places have no byte in common: they are in different files, or one ends by
-- where the other begins
abbrev pub AreApart : ℕ → Spot → Spot → Type 0
AreApart bytes one other =
    one.file ≡ other.file → (one.at + bytes ≤ other.at) ⊎ (other.at + bytes ≤ one.at)

-- two cells of the layout have no byte in common
abbrev pub CellsAreApart : Hierarchy → ℕ → Type 0
CellsAreApart layout bytes =
    IsLayout layout → (one other : Cell) → IsCell layout.spaces one → IsCell layout.spaces other
    → one ≢ other → AreApart bytes (lies layout bytes one) (lies layout bytes other)

-- cells of the layout that lie in one file have one owner
abbrev pub FilesHaveOneOwner : Hierarchy → ℕ → Type 0
FilesHaveOneOwner layout bytes =
    IsLayout layout → (one other : Cell) → IsCell layout.spaces one → IsCell layout.spaces other
    → (lies layout bytes one).file ≡ (lies layout bytes other).file
    → owner_of layout.spaces one ≡ owner_of layout.spaces other

-- operations of affinities that do not exclude each other have no file of a space without locks in common
abbrev pub FilesAreApart : Hierarchy → ℕ → Type 0
FilesAreApart layout bytes =
    IsLayout layout → (a b : ℕ) (ops others : List Op)
    → All (IsCell layout.spaces) (cells_of ops) → All (IsCell layout.spaces) (cells_of others)
    → Covers layout (IsUnlockedAmong layout (cells_of ops)) a
    → Covers layout (IsUnlockedAmong layout (cells_of others)) b
    → ¬ Excludes layout.tree a b
    → (one other : Cell) → IsInFootprint ops one → IsInFootprint others other
    → ¬ IsLocked layout.spaces one
    → (lies layout bytes one).file ≢ (lies layout bytes other).file

-- messages i and j of a trace do not exclude each other, and so may run at once
pub record MayRunTogether (layout : Hierarchy) (messages : List Message) (assigned : List Held) (i j : ℕ)
    (first second : Message) : Type 0 where
  pub assignment : IsAssignment layout messages assigned
  pub from : 1 ≤ i
  pub from_too : 1 ≤ j
  pub at : slice_get messages (i - 1) ≡ Some first
  pub at_too : slice_get messages (j - 1) ≡ Some second
  pub free : ¬ ExcludeEachOther layout.tree (held_of assigned i) (held_of assigned j)

-- they have no file of a space without locks in common
abbrev pub MessagesAreApart : Hierarchy → ℕ → Type 0
MessagesAreApart layout bytes =
    IsLayout layout → (messages : List Message) (assigned : List Held) (i j : ℕ) (first second : Message)
    → MayRunTogether layout messages assigned i j first second
    → All (IsCell layout.spaces) (cells_of first.ops) → All (IsCell layout.spaces) (cells_of second.ops)
    → (one other : Cell) → IsInFootprint first.ops one → IsInFootprint second.ops other
    → ¬ IsLocked layout.spaces one
    → (lies layout bytes one).file ≢ (lies layout bytes other).file

-- two messages only read the cell, and its space has shared locks
pub record AreReaders (layout : Hierarchy) (first second : Message) (cell : Cell) : Type 0 where
  pub shared : locking_of layout.spaces cell ≡ Shared
  pub reads : ¬ Contains (cells_written first.ops) cell
  pub reads_too : ¬ Contains (cells_written second.ops) cell

-- and no cell, but such as both only read
abbrev pub CommonCellsAreRead : Hierarchy → Type 0
CommonCellsAreRead layout =
    (messages : List Message) (assigned : List Held) (i j : ℕ) (first second : Message)
    → MayRunTogether layout messages assigned i j first second
    → (cell : Cell) → IsInFootprint first.ops cell → IsInFootprint second.ops cell
    → AreReaders layout first second cell

-- each cell of the layout lies in one of the files
abbrev pub CellsLieInFiles : Hierarchy → ℕ → Type 0
CellsLieInFiles layout bytes =
    IsLayout layout → (cell : Cell) → IsCell layout.spaces cell
    → (lies layout bytes cell).file < files_of layout.spaces

-- the file for place p of the list of the map of space s is told as that one
abbrev pub PlacesAreFound : Hierarchy → ℕ → Type 0
PlacesAreFound layout bytes =
    (s p : ℕ) → p < owners_at layout.spaces s
    → place_of (placing_of layout.spaces bytes) (files_of (take s layout.spaces) + p) ≡ Some (s, p)

-- What holds of the meaning of messages, and of states.
use Rattle.std.specs.Prelude.{◌≡◌, ℕ, List}
use Rattle.waff_model.specs.Tree.{Node, AtOrAbove, Excludes}
use Rattle.waff_model.specs.Layout.{Hierarchy, Space}
use Rattle.waff_model.specs.declared.cell.Cell.{Cell}
use Rattle.waff_model.specs.declared.op.Op.{Op}
use Rattle.waff_assign.specs.Lowest.{IsInFootprint, Covers}
use Rattle.waff_cells.specs.Meaning.{Cells, meaning}
use Rattle.waff_cells.specs.Serial.{SameParcel}
use Rattle.waff_cells.specs.Grid.{IsState}
use Rattle.waff_cells.specs.Parcel.{IsParcel}

-- a cell that the operations do not name stays as it was
abbrev pub OtherCellsStay : List Op → Type 0
OtherCellsStay ops =
    (cells : Cells) (cell : Cell) → ¬ IsInFootprint ops cell → meaning ops cells cell ≡ cells cell

-- both have the same number in each cell that the operations name
abbrev pub AgreeOn : List Op → Cells → Cells → Type 0
AgreeOn ops one other = (cell : Cell) → IsInFootprint ops cell → one cell ≡ other cell

-- what the operations leave depends on the cells that they name alone: where these agree before,
-- these agree after, and so does each further cell that agreed before
abbrev pub NamedCellsDecide : List Op → Type 0
NamedCellsDecide ops =
    (one other : Cells) → AgreeOn ops one other
    → (cell : Cell) → one cell ≡ other cell → meaning ops one cell ≡ meaning ops other cell

-- affinities that are at or above one affinity exclude each other
abbrev pub ThoseAboveExclude : List Node → Type 0
ThoseAboveExclude tree =
    (a one other : ℕ) → AtOrAbove tree one a → AtOrAbove tree other a → Excludes tree one other

-- operations whose footprint an affinity covers that is not at or above a leave a's parcel as it
-- was
abbrev pub OthersLeaveParcel : Hierarchy → List Op → Type 0
OthersLeaveParcel layout ops =
    (m a : ℕ) → Covers layout (IsInFootprint ops) m → ¬ AtOrAbove layout.tree m a
    → (cells : Cells) → SameParcel layout.spaces a (meaning ops cells) cells

-- there is one state of these sizes that holds these numbers
abbrev pub StateIsOne : List ℕ → Cells → Type 0
StateIsOne sizes cells =
    (one other : List (List ℕ)) → IsState sizes cells one → IsState sizes cells other → one ≡ other

-- there is one parcel of the affinity a that holds these numbers
abbrev pub ParcelIsOne : List Space → ℕ → Cells → Type 0
ParcelIsOne spaces a cells =
    (one other : List ℕ) → IsParcel spaces a cells one → IsParcel spaces a cells other → one ≡ other

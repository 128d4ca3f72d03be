-- The state that messages leave when they run one after another in the order of arrival, and the
-- parcels of that state.
use Rattle.std.specs.Prelude.{◌≡◌, ℕ, zero, suc, List, [], map, slice_index_or}
use Rattle.waff_model.specs.Layout.{Space, IsCell, owner_of}
use Rattle.waff_model.specs.declared.cell.Cell.{Cell}
use Rattle.waff_model.specs.declared.op.Op.{Op}
use Rattle.waff_model.specs.declared.message.Message.{Message}
use Rattle.waff_cells.specs.Meaning.{Cells, meaning}

-- the operations of each message, in the order of arrival
abbrev pub operations : List Message → List (List Op)
operations messages = map (λ message. message.ops) messages

-- the operations of message n, from 1
abbrev pub ops_of : List (List Op) → ℕ → List Op
ops_of ops zero = []
ops_of ops (suc n) = slice_index_or ops n []

-- every cell at the start
abbrev pub zeros : Cells
zeros = λ cell. 0

-- the state that the first n messages leave
abbrev pub serial : List (List Op) → ℕ → Cells
serial ops zero = zeros
serial ops (suc n) = meaning (ops_of ops (suc n)) (serial ops n)

-- the parcel of an affinity is what a state has in the cells that it owns: the same parcel in both
abbrev pub SameParcel : List Space → ℕ → Cells → Cells → Type 0
SameParcel spaces a one other =
    (cell : Cell) → IsCell spaces cell → owner_of spaces cell ≡ a → one cell ≡ other cell

-- What boards and tokens stand for.
use Rattle.std.specs.Prelude.{◌≡◌, ◌-◌, ℕ, List}
use Rattle.atomic_table.specs.Seated.{TableId}
use Rattle.waff_model.specs.declared.cell.Cell.{Cell}
use Rattle.waff_order.specs.Needs.{IsNeed}
use Rattle.waff_cells.specs.Meaning.{Cells}
use Rattle.waff_cells.specs.Parcel.{AreParcels, IsOwned}
use Rattle.waff_cells.specs.Serial.{serial}
use Rattle.waff_core.specs.Job.{JobValue, owners_of}
use Rattle.waff_board.specs.Seats.{HasSeen}
use Rattle.waff_board.specs.declared.view.View.{View}

-- a board: its table, the job, and how many seats it has
pub record BoardValue : Type 0 where
  pub table : TableId
  pub job : JobValue
  pub seats : ℕ

-- a token: the table of its board; what its seat knows; the message that it holds or runs, from 1;
-- and the parcels of the owners of a message that it runs. A token without a message has 0, one
-- that runs none has no parcels
pub record Token : Type 0 where
  pub table : TableId
  pub view : View
  pub message : ℕ
  pub parcels : List (List ℕ)

-- a token of this board
abbrev pub IsOf : BoardValue → Token → Type 0
IsOf board token = (token.table ≡ board.table) × (token.view.job ≡ board.job)

-- the seat has seen all needs of its message done
abbrev pub SeesNeeds : Token → Type 0
SeesNeeds token = (i : ℕ) → IsNeed token.view.job.needs i token.message → HasSeen token.view i

-- the token has the parcels of its message's owners, with these cells
abbrev pub HoldsCells : Token → Cells → Type 0
HoldsCells token cells =
    AreParcels token.view.job.layout.spaces (owners_of token.view.job.owners token.message) cells
    token.parcels

-- the parcels are as the messages before the token's message left them
abbrev pub HoldsBefore : Token → Type 0
HoldsBefore token = HoldsCells token (serial token.view.job.ops (token.message - 1))

-- the parcels are as the message left them
abbrev pub HoldsAfter : Token → Type 0
HoldsAfter token = HoldsCells token (serial token.view.job.ops token.message)

-- the cells of the owners of the token's message
abbrev pub IsCellOf : Token → Cell → Type 0
IsCellOf token cell =
    IsOwned token.view.job.layout.spaces (owners_of token.view.job.owners token.message) cell

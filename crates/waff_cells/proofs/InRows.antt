-- The rows of a state as rows that hold cells: each cell in the row of its space, at its index.
use Rattle.std.proofs.Common.{◌≡◌, ℕ, List, length, map, All, refl, ap, ap₂}
use Rattle.waff_model.specs.Cells.{cells_of, LiesIn}
use Rattle.waff_model.specs.declared.cell.Cell.{Cell}
use Rattle.waff_model.specs.declared.op.Op.{Op}
use Rattle.waff_cells.specs.Meaning.{meaning}
use Rattle.waff_cells.specs.Grid.{cells_in}
use Rattle.waff_cells.specs.Held.{Address}
use Rattle.waff_cells.proofs.HeldCells.{AreApart}
use Rattle.waff_cells.specs.RowEffects.{row_meaning}
use Rattle.waff_cells.proofs.RowRuns.{ops_keep}

abbrev pub in_space : Cell → Address
in_space cell = (cell.space, cell.index)

abbrev Any : Cell → Type 0
Any cell = Unit {0}

-- no two cells share an address
apart : AreApart Any in_space
apart one other is_one is_other same =
    let spaces : one.space ≡ other.space = ap (λ (a : Address). a.0) same in
    let places : one.index ≡ other.index = ap (λ (a : Address). a.1) same in
    ap₂ {C = Cell} (λ s i. record { space = s; index = i }) spaces places

-- what operations leave of a state's rows
pub ops_leave : (ops : List Op) (rows : List (List ℕ)) → All (LiesIn (map length rows)) (cells_of ops)
    → (cell : Cell) → cells_in (row_meaning in_space ops rows) cell ≡ meaning ops (cells_in rows) cell
ops_leave ops rows lie cell =
    (ops_keep Any in_space apart ops rows (λ k d within. tt) lie).holds (cells_in rows) (λ other is. refl) cell tt

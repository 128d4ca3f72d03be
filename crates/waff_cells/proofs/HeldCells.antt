-- Cells that lie in rows, each at an address of its own.
use Rattle.std.specs.Prelude.{◌≡◌, ℕ, List}
use Rattle.waff_model.specs.declared.cell.Cell.{Cell}
use Rattle.waff_cells.specs.Meaning.{Cells}
use Rattle.waff_cells.specs.Held.{Address, number_at}

-- no two of the cells that there are share an address
abbrev pub AreApart : (Cell → Type 0) → (Cell → Address) → Type 0
AreApart Has at = (one other : Cell) → Has one → Has other → at one ≡ at other → one ≡ other

-- the rows hold these numbers of the cells that there are, each at its address
abbrev pub Hold : (Cell → Type 0) → (Cell → Address) → List (List ℕ) → Cells → Type 0
Hold Has at rows cells = (cell : Cell) → Has cell → number_at rows (at cell) ≡ cells cell

-- what the rows held before, they hold after as the step leaves it
abbrev pub HoldAfter : (Cell → Type 0) → (Cell → Address) → List (List ℕ) → List (List ℕ)
    → (Cells → Cells) → Type 0
HoldAfter Has at before after step =
    (cells : Cells) → Hold Has at before cells → Hold Has at after (step cells)

-- How long cells are used, told by edges: places at which so many ticks begin, and after which so many end.
use Rattle.std.specs.Prelude.{◌≡◌, ℕ, ◌+◌, ◌*◌, ◌^◌, ◌<◌, ◌≤◌, nat_lt, List, [], ◌∷◌, ◌++◌, if◌then◌else◌, sum_by, Option, Some, None}
use Rattle.waff_model.specs.declared.cell.Cell.{Cell}
use Rattle.waff_limits.specs.declared.edges.Edge.{Edge}
use Rattle.waff_limits.specs.declared.edges.Edges.{Edges}
use Rattle.waff_limits.specs.declared.edges.Most.{Most}
use Rattle.waff_limits.specs.declared.data.CellUse.{CellUse}

-- the place of a cell among all cells: by its space, then its index
abbrev pub place_of : Cell → ℕ
place_of cell = cell.space * 2 ^ 32 + cell.index

-- what an edge before this place adds
abbrev pub if_before : (Edge → ℕ) → ℕ → Edge → ℕ
if_before amount place edge = if nat_lt edge.place place then amount edge else 0

-- what all edges before it add up to
abbrev pub sum_before : (Edge → ℕ) → List Edge → ℕ → ℕ
sum_before amount edges place = sum_by (if_before amount place) edges

-- the ticks that have begun at a place, and those that have ended before it
abbrev pub begun_at : List Edge → ℕ → ℕ
begun_at edges place = sum_before (λ edge. edge.begins) edges (place + 1)

abbrev pub ended_at : List Edge → ℕ → ℕ
ended_at edges place = sum_before (λ edge. edge.ends) edges place

-- all edges, with the last one
abbrev pub edges_of : Edges → List Edge
edges_of edges = edges.edges.items ++ edges.last ∷ []

-- the edges tell for how many ticks each cell is used: those that have begun there and have not ended
pub record AreUsed (edges : List Edge) (used : Cell → ℕ) : Type 0 where
  pub told : (cell : Cell) → cell.index < 2 ^ 32 → ended_at edges (place_of cell) + used cell ≡ begun_at edges (place_of cell)
  pub no_other : (cell : Cell) → 2 ^ 32 ≤ cell.index → used cell ≡ 0

-- at no place more has ended than has begun, nor less by 2^64
pub record AreSmall (edges : List Edge) : Type 0 where
  pub ended : (place : ℕ) → ended_at edges place ≤ begun_at edges place
  pub few : (place : ℕ) → begun_at edges place < ended_at edges place + 2 ^ 64

-- the first place at which there are most ticks; 0 and 0 where there are none
pub record IsMostAt (ticks : ℕ → ℕ) (most : Most) : Type 0 where
  pub greatest : (place : ℕ) → ticks place ≤ most.ticks
  pub at : 0 < most.ticks → ticks most.place ≡ most.ticks
  pub first : (place : ℕ) → place < most.place → ticks place < most.ticks

-- the cell at a place, none where there are no ticks
abbrev pub IsCellAt : Most → Option CellUse → Type 0
IsCellAt most None = most.ticks ≡ 0
IsCellAt most (Some found) =
    (found.ticks ≡ most.ticks) × (1 ≤ most.ticks) × (place_of found.cell ≡ most.place) × (found.cell.index < 2 ^ 32)

-- Layouts: spaces of cells over a tree of affinities, and the owner of each cell.
use Rattle.std.specs.Prelude.{◌≡◌, ◌≢◌, ℕ, ◌/◌, ◌%◌, ◌<◌, ◌≤◌, Bool, true, false, IsTrue, List, [], ◌∷◌, length}
use Rattle.std.specs.Prelude.{map, Option}
use Rattle.std.specs.Prelude.{option_map, unwrap_or, slice_get, slice_index, position, sum_by, All}
use Rattle.std.specs.Prelude.{AllPairs}
use Rattle.std.specs.List.{list_any}
use Rattle.std.specs.Str.{bytes_eq}
use Rattle.waff_model.specs.Names.{is_name}
use Rattle.waff_model.specs.Tree.{Node, IsTree}
use Rattle.waff_model.specs.Formats.{max_size_of, max_unit_of}
use Rattle.waff_model.specs.declared.limits.TheConstants.{MAX_SPACES, MAX_CELLS, MAX_OWNERS}
use Rattle.waff_model.specs.declared.cell.Cell.{Cell}
use Rattle.waff_model.specs.declared.format.Format.{Format}
use Rattle.waff_model.specs.declared.format.Format.TheVariants.{F1}
use Rattle.waff_model.specs.declared.kind.Kind.{Kind}
use Rattle.waff_model.specs.declared.locking.Locking.{Locking}
use Rattle.waff_model.specs.declared.locking.Locking.TheVariants.{Unlocked, Exclusive, Shared}

-- a space of cells with its map: runs of `unit` cells go to the affinities of `to` in turn, over
-- and over; and whether its cells have locks
pub record Space : Type 0 where
  pub name : List ℕ
  pub size : ℕ
  pub unit : ℕ
  pub to : List ℕ
  pub locks : Locking

-- what a layout stands for: its format, its kind, its tree of affinities, and its spaces, numbered
-- from 0
pub record Hierarchy : Type 0 where
  pub format : Format
  pub kind : Kind
  pub tree : List Node
  pub spaces : List Space

-- the names of spaces
abbrev pub names_of : List Space → List (List ℕ)
names_of spaces = map (λ space. space.name) spaces

-- the sizes of spaces
abbrev pub sizes_of : List Space → List ℕ
sizes_of spaces = map (λ space. space.size) spaces

-- the same spaces: equal lists of names and of sizes
pub record SameSpaces (spaces others : List Space) : Type 0 where
  pub names : names_of spaces ≡ names_of others
  pub sizes : sizes_of spaces ≡ sizes_of others

-- the name of the space s
abbrev pub name_at : List Space → ℕ → Option (List ℕ)
name_at spaces s = option_map (λ space. space.name) (slice_get spaces s)

-- the size of the space s, and 0 where there is no such space
abbrev pub size_at : List Space → ℕ → ℕ
size_at spaces s = unwrap_or (option_map (λ space. space.size) (slice_get spaces s)) 0

-- the unit of the map of the space s: how many cells in a row it gives to one owner
abbrev pub unit_at : List Space → ℕ → ℕ
unit_at spaces s = unwrap_or (option_map (λ space. space.unit) (slice_get spaces s)) 0

-- how many owners the map of the space s lists
abbrev pub owners_at : List Space → ℕ → ℕ
owners_at spaces s = unwrap_or (option_map (λ space. length space.to) (slice_get spaces s)) 0

-- the number of the space with this name
abbrev pub space_named : List Space → List ℕ → Option ℕ
space_named spaces name = position (λ space. bytes_eq name space.name) spaces

-- the cell lies in one of the spaces: its index is below the size of its space
abbrev pub IsCell : List Space → Cell → Type 0
IsCell spaces cell = cell.index < size_at spaces cell.space

-- the owner of the cell with this index: `to[(index / unit) mod len(to)]`
abbrev pub owner_at : Space → ℕ → ℕ
owner_at space index = slice_index space.to ((index / space.unit) % length space.to)

-- the affinity that owns the cell
abbrev pub owner_of : List Space → Cell → ℕ
owner_of spaces cell =
    unwrap_or (option_map (λ space. owner_at space cell.index) (slice_get spaces cell.space)) 0

-- whether the cell has a lock, and of which kind: each cell of a space with locks has one
abbrev pub locking_of : List Space → Cell → Locking
locking_of spaces cell =
    unwrap_or (option_map (λ space. space.locks) (slice_get spaces cell.space)) Unlocked

-- it has a lock
abbrev pub IsLocked : List Space → Cell → Type 0
IsLocked spaces cell = locking_of spaces cell ≢ Unlocked

-- cells of this kind have locks
abbrev pub are_locked : Locking → Bool
are_locked Unlocked = false
are_locked Exclusive = true
are_locked Shared = true

-- some space has locks
abbrev pub has_locks : List Space → Bool
has_locks spaces = list_any (λ space. are_locked space.locks) spaces

-- the space, with no locks
abbrev pub unlocked_space : Space → Space
unlocked_space space = record space { locks = Unlocked }

-- the layout, with no locks
abbrev pub unlocked : Hierarchy → Hierarchy
unlocked layout = record layout { spaces = map unlocked_space layout.spaces }

-- the locks of spaces, one kind for each
abbrev pub lockings_of : List Space → List Locking
lockings_of spaces = map (λ space. space.locks) spaces

-- the spaces with these locks, one kind for each in order: names, sizes and maps stay
abbrev pub spaces_with : List Space → List Locking → List Space
spaces_with [] lockings = []
spaces_with (space ∷ spaces) [] = space ∷ spaces
spaces_with (space ∷ spaces) (locking ∷ lockings) = record space { locks = locking } ∷ spaces_with spaces lockings

-- the layout with these locks
abbrev pub with_lockings : Hierarchy → List Locking → Hierarchy
with_lockings layout lockings = record layout { spaces = spaces_with layout.spaces lockings }

-- there are few cells over all spaces, so that each can be kept
abbrev pub HasFewCells : List Space → Type 0
HasFewCells spaces = sum_by (λ space. space.size) spaces ≤ MAX_CELLS

-- a space whose numbers are within the limits, and whose owners are affinities of the tree
pub record IsSpace (format : Format) (tree : List Node) (space : Space) : Type 0 where
  pub named : IsTrue (is_name space.name)
  pub filled : 0 < space.size
  pub size : space.size ≤ max_size_of format
  pub whole : 0 < space.unit
  pub unit : space.unit ≤ max_unit_of format
  pub owned : 0 < length space.to
  pub owners : length space.to ≤ MAX_OWNERS
  pub affinities : All (λ a. a < length tree) space.to

-- a layout: a tree, and spaces of different names over it, within the limits of its format
pub record IsLayout (layout : Hierarchy) : Type 0 where
  pub tree : IsTree layout.tree
  pub some : 0 < length layout.spaces
  pub few : length layout.spaces ≤ MAX_SPACES
  pub each : All (IsSpace layout.format layout.tree) layout.spaces
  pub different : AllPairs (λ s t. s.name ≢ t.name) layout.spaces
  pub cells : layout.format ≡ F1 → HasFewCells layout.spaces

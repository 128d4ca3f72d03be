-- The space and the owner of a cell.
use Rattle.std.proofs.Common.{◌≡◌, ℕ, zero, suc, ◌/◌, ◌%◌, ◌<◌, List, [], ◌∷◌, length, get_or, All, ap, sym, arith}
use Rattle.std.proofs.lemmas.Nat.{mod_below}
use Rattle.std.proofs.lemmas.List.Elements.{All-head, All-tail}
use Rattle.waff_model.specs.declared.cell.Cell.{Cell}
use Rattle.waff_model.specs.declared.format.Format.{Format}
use Rattle.waff_model.specs.Tree.{Node}
use Rattle.waff_model.specs.Layout.{Space, IsSpace, IsCell, size_at, owner_at, owner_of}

pub space_below : (spaces : List Space) (s i : ℕ) → i < size_at spaces s → s < length spaces
space_below [] s i within = absurd (omega arith)
space_below (space ∷ spaces) zero i within = omega arith
space_below (space ∷ spaces) (suc s) i within = omega (arith, space_below spaces s i within)

-- the size and the owners of the space that is read there
pub record IsRead (spaces : List Space) (s : ℕ) (space : Space) : Type 0 where
  pub size : size_at spaces s ≡ space.size
  pub owner : (index : ℕ) → owner_of spaces (record { space = s; index = index }) ≡ owner_at space index

pub space_read : (spaces : List Space) (s : ℕ) → s < length spaces → (space : Space) → space ≡ get_or spaces s space → IsRead spaces s space
space_read [] s within space is = absurd (omega (arith, within))
space_read (first ∷ spaces) zero within space is = record {
  size = ap (λ (sp : Space). sp.size) (sym is);
  owner = λ index. ap (λ (sp : Space). owner_at sp index) (sym is);
}
space_read (first ∷ spaces) (suc s) within space is =
    let later = space_read spaces s (omega (arith, within)) space is in
    record { size = later.size; owner = later.owner }

owner_below : {format : Format} (tree : List Node) (spaces : List Space) (s i : ℕ) → All (IsSpace format tree) spaces → i < size_at spaces s → owner_of spaces (record { space = s; index = i }) < length tree
owner_below tree [] s i each within = absurd (omega arith)
owner_below tree (space ∷ spaces) zero i each within =
    let is_space = All-head (IsSpace _ tree) space spaces each in
    is_space.affinities ((i / space.unit) % length space.to) 0 (mod_below (i / space.unit) (length space.to) is_space.owned)
owner_below tree (space ∷ spaces) (suc s) i each within =
    owner_below tree spaces s i (All-tail (IsSpace _ tree) space spaces each) within

-- the owner of a cell is an affinity
pub owner_is_affinity : {format : Format} (tree : List Node) (spaces : List Space) → All (IsSpace format tree) spaces → (cell : Cell) → IsCell spaces cell → owner_of spaces cell < length tree
owner_is_affinity tree spaces each cell is_cell = owner_below tree spaces cell.space cell.index each is_cell

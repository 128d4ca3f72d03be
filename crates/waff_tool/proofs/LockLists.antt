-- Lists of the locks of messages.
use Rattle.std.proofs.Common.{ℕ, zero, suc, ◌<◌, List, [], ◌∷◌, All, length, get_or, arith, refl}
use Rattle.std.proofs.lemmas.List.Elements.{Contains-get_or}
use Rattle.waff_model.specs.Layout.{Hierarchy, IsLocked, Space}
use Rattle.waff_model.specs.declared.cell.Cell.{Cell}
use Rattle.waff_model.specs.declared.message.Message.{Message}
use Rattle.waff_assign.specs.Lowest.{ListsLocks}

-- a cell with a lock is of one of the spaces
locked_at : (spaces : List Space) (s i : ℕ) → IsLocked spaces (record { space = s; index = i }) → s < length spaces
locked_at [] s i locked = absurd (locked refl)
locked_at (space ∷ spaces) zero i locked = omega arith
locked_at (space ∷ spaces) (suc s) i locked = let below = locked_at spaces s i locked in omega (arith, below)

-- all that are listed are
pub cells_known : (layout : Hierarchy) (messages : List Message) (cells : List Cell) → ListsLocks layout messages cells
    → All (λ cell. cell.space < length layout.spaces) cells
cells_known layout messages cells lists k d inside =
    let cell = get_or cells k d in
    locked_at layout.spaces cell.space cell.index ((lists.each cell).0 (Contains-get_or cells k d inside)).0

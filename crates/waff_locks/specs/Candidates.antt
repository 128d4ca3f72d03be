-- The spaces that may get locks.
use Rattle.std.specs.Prelude.{◌≡◌, ℕ, ◌<◌, ◌==◌, ◌&&◌, Bool, true, false, List, [], ◌∷◌, filter, length, slice_index_or, slice_set}
use Rattle.std.specs.List.{list_any, range_with_len}
use Rattle.waff_model.specs.Cells.{cells_of}
use Rattle.waff_model.specs.declared.locking.Locking.{Locking}
use Rattle.waff_model.specs.declared.locking.Locking.TheVariants.{Unlocked, Exclusive, Shared}
use Rattle.waff_model.specs.declared.message.Message.{Message}
use Rattle.waff_model.specs.declared.op.Op.{Op}

-- locks of the first kind would be new: a space without locks may get both kinds, and one with exclusive locks shared ones
abbrev pub are_new : Locking → Locking → Bool
are_new Unlocked there = false
are_new Exclusive Unlocked = true
are_new Exclusive Exclusive = false
are_new Exclusive Shared = false
are_new Shared Unlocked = true
are_new Shared Exclusive = true
are_new Shared Shared = false

-- operations name a cell of the space
abbrev pub ops_name : List Op → ℕ → Bool
ops_name ops s = list_any (λ cell. cell.space == s) (cells_of ops)

-- a message names one
abbrev pub name_space : List Message → ℕ → Bool
name_space messages s = list_any (λ message. ops_name message.ops s) messages

-- where spaces have these locks, those that locks of a kind would be new to and of which a message names a cell
abbrev pub candidates : Locking → List Message → List Locking → List ℕ
candidates kind messages lockings =
    filter (λ s. are_new kind (slice_index_or lockings s Unlocked) && name_space messages s) (range_with_len 0 (length lockings))

-- of which spaces messages name a cell, by their numbers
abbrev pub AreNamed : List Message → List Bool → Type 0
AreNamed messages named = (s : ℕ) → s < length named → slice_index_or named s false ≡ name_space messages s

-- the locks of spaces, where these get locks of a kind too
abbrev pub locked_too : Locking → List ℕ → List Locking → List Locking
locked_too kind [] lockings = lockings
locked_too kind (s ∷ more) lockings = locked_too kind more (slice_set lockings s kind)

-- A cell that two messages name which do not exclude each other is one that both only read, and whose lock they share.
use Rattle.std.proofs.Common.{◌≡◌, ◌↔◌, ◌⊎◌, inl, inr, ℕ, ◌-◌, ◌≤◌, Bool, true, false, List, Contains, Option, None, Some, slice_get, refl, ap, sym, ◌∙◌}
use Rattle.std.proofs.lemmas.Bool.{false≢true}
use Rattle.std.proofs.lemmas.Option.{get_or_from_slice_get, slice_get-get_or, slice_get_within}
use Rattle.waff_model.specs.Cells.{cells_written}
use Rattle.waff_model.specs.Layout.{Hierarchy, IsLocked, locking_of, owner_of}
use Rattle.waff_model.specs.declared.cell.Cell.{Cell}
use Rattle.waff_model.specs.declared.locking.Locking.{Locking}
use Rattle.waff_model.specs.declared.locking.Locking.TheVariants.{Exclusive, Shared, Unlocked}
use Rattle.waff_model.specs.declared.message.Message.{Message}
use Rattle.waff_model.proofs.TreeLemmas.{comparable}
use Rattle.waff_assign.specs.Held.{ExcludeEachOther, Held, UsesAlone, UsesShared}
use Rattle.waff_assign.specs.Lowest.{IsAffinityOf, IsHeldBy, IsInFootprint}
use Rattle.waff_assign.specs.Order.{held_of}
use Rattle.waff_assign.proofs.Holding.{affinities_do, alone_excludes, exclude_sym, uses_alone_uses, uses_shared_uses}
use Rattle.waff_run.specs.PlaceLaws.{AreReaders, CommonCellsAreRead, MayRunTogether}

abbrev is_exclusive : Locking → Bool
is_exclusive Unlocked = false
is_exclusive Exclusive = true
is_exclusive Shared = false

abbrev is_locked : Locking → Bool
is_locked Unlocked = false
is_locked Exclusive = true
is_locked Shared = true

-- how a message that names the cell uses its lock, the one with this number
module _ (layout : Hierarchy) (locks : List Cell) (cell : Cell) (lock : ℕ) (here : slice_get locks lock ≡ Some cell) (message : Message) (held : Held)
    (holds : IsHeldBy layout locks message held) (names : IsInFootprint message.ops cell) where
  used : (alone : Bool) → (alone ≡ true) ↔ ((locking_of layout.spaces cell ≡ Exclusive) ⊎ Contains (cells_written message.ops) cell)
      → Contains held.uses (record { lock = lock; alone = alone })
  used alone is =
      (holds.uses.each (record { lock = lock; alone = alone })).1 (record { cell = cell; numbered = here; named = names; alone = is })

  used_alone : (locking_of layout.spaces cell ≡ Exclusive) ⊎ Contains (cells_written message.ops) cell → UsesAlone held lock
  used_alone why = (record { lock = lock; alone = true }, used true ((λ _. why), (λ _. refl)), refl, refl)

  used_shared : locking_of layout.spaces cell ≡ Shared → ¬ Contains (cells_written message.ops) cell → UsesShared held lock
  used_shared shared reads = (
    record { lock = lock; alone = false },
    used false (
      (λ is. absurd (false≢true is)),
      (λ why. elim why [
        | inl exclusive ↦ absurd (false≢true (ap is_exclusive (sym shared ∙ exclusive)))
        | inr writes ↦ absurd (reads writes)
      ]),
    ),
    refl,
    refl,
  )

-- one who writes a cell excludes all others who name it, where it has a lock
module _ (layout : Hierarchy) (locks : List Cell) (cell : Cell) (lock : ℕ) (here : slice_get locks lock ≡ Some cell) (shared : locking_of layout.spaces cell ≡ Shared)
    (one other : Message) (held held_too : Held) (holds : IsHeldBy layout locks one held) (holds_too : IsHeldBy layout locks other held_too)
    (names : IsInFootprint one.ops cell) (names_too : IsInFootprint other.ops cell) (free : ¬ ExcludeEachOther layout.tree held held_too) where
  never_written : ¬ Contains (cells_written one.ops) cell
  never_written writes =
      let alone = used_alone layout locks cell lock here one held holds names (inr writes) in
      let reads : ¬ Contains (cells_written other.ops) cell
      = λ writes_too.
      let alone_too = used_alone layout locks cell lock here other held_too holds_too names_too (inr writes_too) in
      free (alone_excludes layout.tree held held_too lock alone (uses_alone_uses held_too lock alone_too)) in
      let shares = used_shared layout locks cell lock here other held_too holds_too names_too shared reads in
      free (alone_excludes layout.tree held held_too lock alone (uses_shared_uses held_too lock shares))

module _ (layout : Hierarchy) (messages : List Message) (assigned : List Held) (i j : ℕ) (first second : Message)
    (may : MayRunTogether layout messages assigned i j first second) (cell : Cell) (names : IsInFootprint first.ops cell) (names_too : IsInFootprint second.ops cell) where
  abbrev locks : List Cell
  locks = may.assignment.locks

  abbrev held : Held
  held = held_of assigned i

  abbrev held_too : Held
  held_too = held_of assigned j

  holds : IsHeldBy layout locks first held
  holds = may.assignment.each i first may.from may.at

  holds_too : IsHeldBy layout locks second held_too
  holds_too = may.assignment.each j second may.from_too may.at_too

  -- without a lock its owner would be below both affinities
  none_without : (a b : Option ℕ) → held.affinity ≡ a → held_too.affinity ≡ b → IsAffinityOf layout first.ops a → IsAffinityOf layout second.ops b
      → locking_of layout.spaces cell ≡ Unlocked → ⊥
  none_without None b is is_too all lowest none = all cell names none
  none_without (Some a) None is is_too lowest all none = all cell names_too none
  none_without (Some a) (Some b) is is_too lowest lowest_too none =
      let unlocked : ¬ IsLocked layout.spaces cell = λ locked. locked none in
      may.free (affinities_do layout.tree held held_too a b is is_too
      (comparable layout.tree a b (owner_of layout.spaces cell) (lowest.1.covers cell (names, unlocked)) (lowest_too.1.covers cell (names_too, unlocked))))

  -- the number of its lock
  numbered : is_locked (locking_of layout.spaces cell) ≡ true → (lock : ℕ) × (slice_get locks lock ≡ Some cell)
  numbered locked =
      let there : Contains messages first
      = (i - 1, slice_get_within messages (i - 1) first may.at, get_or_from_slice_get messages (i - 1) first first may.at) in
      let at = (may.assignment.numbered.each cell).1 ((λ none. false≢true (sym (ap is_locked none) ∙ locked)), (first, there, names)) in
      (at.0, slice_get-get_or locks at.0 cell at.1 ∙ ap Some at.2)

  by_kind : (kind : Locking) → locking_of layout.spaces cell ≡ kind → AreReaders layout first second cell
  by_kind Unlocked is = absurd (none_without held.affinity held_too.affinity refl refl holds.affinity holds_too.affinity is)
  by_kind Exclusive is =
      let (lock, here) = numbered (ap is_locked is) in
      let alone = used_alone layout locks cell lock here first held holds names (inl is) in
      let alone_too = used_alone layout locks cell lock here second held_too holds_too names_too (inl is) in
      absurd (may.free (alone_excludes layout.tree held held_too lock alone (uses_alone_uses held_too lock alone_too)))
  by_kind Shared is =
      let (lock, here) = numbered (ap is_locked is) in
      record {
        shared = is;
        reads = never_written layout locks cell lock here is first second held held_too holds holds_too names names_too may.free;
        reads_too = never_written layout locks cell lock here is second first held_too held holds_too holds names_too names
            (λ exclude. may.free (exclude_sym layout.tree held_too held exclude));
      }

pub common_cells_are_read : (layout : Hierarchy) → CommonCellsAreRead layout
common_cells_are_read layout messages assigned i j first second may cell names names_too =
    by_kind layout messages assigned i j first second may cell names names_too (locking_of layout.spaces cell) refl

-- Messages with a common cell exclude each other.
use Rattle.std.proofs.Common.{◌≡◌, ◌⊎◌, ℕ, ◌-◌, ◌≤◌, inl, inr, List, Contains, Option, Some, None, slice_get, refl, sym, ◌∙◌}
use Rattle.std.proofs.lemmas.Option.{slice_get_within, get_or_from_slice_get}
use Rattle.waff_model.specs.Cells.{cells_written}
use Rattle.waff_model.specs.Layout.{Hierarchy, IsLocked, locking_of, owner_of}
use Rattle.waff_model.specs.Tree.{AtOrAbove}
use Rattle.waff_model.specs.declared.cell.Cell.{Cell}
use Rattle.waff_model.specs.declared.locking.Locking.{Locking}
use Rattle.waff_model.specs.declared.locking.Locking.TheVariants.{Unlocked, Exclusive, Shared}
use Rattle.waff_model.specs.declared.message.Message.{Message}
use Rattle.waff_model.specs.declared.op.Op.{Op}
use Rattle.waff_model.proofs.TreeLemmas.{comparable}
use Rattle.waff_assign.specs.Held.{ExcludeEachOther, Held}
use Rattle.waff_assign.specs.Lowest.{IsAffinityOf, IsAssignment, IsHeldBy, IsInFootprint, ListsLocks}
use Rattle.waff_assign.specs.Order.{held_of}
use Rattle.waff_assign.proofs.Holding.{affinities_do, alone_excludes, exclude_sym}
use Rattle.waff_assign.proofs.Knowing.{has_use_of}

module _ (layout : Hierarchy) (messages : List Message) (locks : List Cell) (lists : ListsLocks layout messages locks) where
  -- the affinity of operations covers each of their cells that has no lock
  covers_cell : (ops : List Op) (o : Option ℕ) (cell : Cell) → IsAffinityOf layout ops o → IsInFootprint ops cell → (IsLocked layout.spaces cell → ⊥)
      → (a : ℕ) × (o ≡ Some a) × AtOrAbove layout.tree a (owner_of layout.spaces cell)
  covers_cell ops None cell all named free = absurd (free (all cell named))
  covers_cell ops (Some a) cell (some, lowest) named free = (a, refl, lowest.covers cell (named, free))

  module _ (one other : Message) (held more : Held) (first : IsHeldBy layout locks one held) (second : IsHeldBy layout locks other more)
      (in_first : Contains messages one) (in_second : Contains messages other) (cell : Cell)
      (named : IsInFootprint one.ops cell) (named_too : IsInFootprint other.ops cell) where
    by_affinities : (IsLocked layout.spaces cell → ⊥) → ExcludeEachOther layout.tree held more
    by_affinities free =
        let (a, is_a, above_a) = covers_cell one.ops held.affinity cell first.affinity named free in
        let (b, is_b, above_b) = covers_cell other.ops more.affinity cell second.affinity named_too free in
        affinities_do layout.tree held more a b is_a is_b (comparable layout.tree a b (owner_of layout.spaces cell) above_a above_b)

    by_lock : IsLocked layout.spaces cell
        → ((locking_of layout.spaces cell ≡ Exclusive) ⊎ Contains (cells_written one.ops) cell)
        ⊎ ((locking_of layout.spaces cell ≡ Exclusive) ⊎ Contains (cells_written other.ops) cell)
        → ExcludeEachOther layout.tree held more
    by_lock locked either =
        let u = has_use_of layout messages locks one held.uses cell lists in_first first.uses named locked in
        let v = has_use_of layout messages locks other more.uses cell lists in_second second.uses named_too locked in
        let same = v.lock ∙ sym u.lock in
        elim either [
          | inl alone ↦ alone_excludes layout.tree held more u.use_of.lock (u.use_of, u.among, refl, u.alone alone) (v.use_of, v.among, same)
          | inr alone ↦
              exclude_sym layout.tree more held
              (alone_excludes layout.tree more held u.use_of.lock (v.use_of, v.among, same, v.alone alone) (u.use_of, u.among, refl))
        ]

    -- unless both share its lock
    pub exclude_by_cell : (locking_of layout.spaces cell ≡ Shared → Contains (cells_written one.ops) cell ⊎ Contains (cells_written other.ops) cell)
        → ExcludeEachOther layout.tree held more
    exclude_by_cell written = by (locking_of layout.spaces cell) refl
      where
        by : (locking : Locking) → locking_of layout.spaces cell ≡ locking → ExcludeEachOther layout.tree held more
        by Unlocked is = by_affinities (λ locked. locked is)
        by Exclusive is = by_lock (λ none. absurd (cc)) (inl (inl is))
        by Shared is = by_lock (λ none. absurd (cc)) (elim (written is) [
          | inl first_writes ↦ inl (inr first_writes)
          | inr second_writes ↦ inr (inr second_writes)
        ])

among : (messages : List Message) (k : ℕ) (message : Message) → slice_get messages k ≡ Some message → Contains messages message
among messages k message is = (k, slice_get_within messages k message is, get_or_from_slice_get messages k message message is)

pub common_cell_excludes : (layout : Hierarchy) (messages : List Message) (assigned : List Held) → IsAssignment layout messages assigned
    → (i j : ℕ) (one other : Message) (cell : Cell) → 1 ≤ i → 1 ≤ j → slice_get messages (i - 1) ≡ Some one → slice_get messages (j - 1) ≡ Some other
    → IsInFootprint one.ops cell → IsInFootprint other.ops cell
    → (locking_of layout.spaces cell ≡ Shared → Contains (cells_written one.ops) cell ⊎ Contains (cells_written other.ops) cell)
    → ExcludeEachOther layout.tree (held_of assigned i) (held_of assigned j)
common_cell_excludes layout messages assigned assignment i j one other cell from_i from_j is_i is_j named named_too written =
    exclude_by_cell layout messages assignment.locks assignment.numbered one other (held_of assigned i) (held_of assigned j)
    (assignment.each i one from_i is_i) (assignment.each j other from_j is_j) (among messages (i - 1) one is_i) (among messages (j - 1) other is_j)
    cell named named_too written

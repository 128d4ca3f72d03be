-- The lowest affinity of a footprint is one, and so is the assignment of a trace.
use Rattle.std.proofs.Common.{◌≡◌, ℕ, ◌+◌, ◌-◌, ◌<◌, ◌≤◌, inl, inr, List, get_or, Option, None, Some, slice_get, Contains, arith, refl, sym, ◌∙◌, ap, ap₂, subst}
use Rattle.std.specs.List.{AllPairs}
use Rattle.std.specs.declared.cmp.Ordering.TheVariants.{Less}
use Rattle.std.proofs.lemmas.List.{get_or_default, same_lists}
use Rattle.std.proofs.lemmas.Map.Keys.{Less-from_sorted}
use Rattle.std.proofs.lemmas.Option.{slice_get-get_or, slice_get_cases}
use Rattle.waff_model.specs.Layout.{Hierarchy}
use Rattle.waff_model.specs.Tree.{IsTree}
use Rattle.waff_model.specs.declared.cell.Cell.{Cell}
use Rattle.waff_model.specs.declared.message.Message.{Message}
use Rattle.waff_model.specs.declared.op.Op.{Op}
use Rattle.waff_model.proofs.TreeLemmas.{earlier}
use Rattle.waff_assign.specs.Footprint.{cell_cmp}
use Rattle.waff_assign.specs.Held.{Held, IsRising, nothing}
use Rattle.waff_assign.specs.Lowest.{IsAffinityAmong, IsAssignment, IsHeldBy, IsLowest, ListsLocks, ListsUses}
use Rattle.waff_assign.specs.Unique.{LowestIsOne, AssignmentIsOne}
use Rattle.waff_assign.specs.declared.held.LockUse.{LockUse}
use Rattle.waff_assign.proofs.CellOrder.{cell_cmp_total}
use Rattle.waff_assign.proofs.Elements.{same_elements}

-- two lowest affinities that cover the same are equal
same_lowest : (layout : Hierarchy) (Has : Cell → Type 0) (a b : ℕ) → IsTree layout.tree → IsLowest layout Has a → IsLowest layout Has b → a ≡ b
same_lowest layout Has a b tree first second =
    let up : a ≤ b = earlier layout.tree tree.rooted a b (second.lowest a first.covers) in
    let down : b ≤ a = earlier layout.tree tree.rooted b a (first.lowest b second.covers) in
    omega arith

pub lowest_is_one : (layout : Hierarchy) (cells : List Cell) → IsTree layout.tree → LowestIsOne layout cells
lowest_is_one layout cells tree a b first second = same_lowest layout (Contains cells) a b tree first second

-- so are two affinities of the same cells
same_affinity : (layout : Hierarchy) (cells : List Cell) (one other : Option ℕ) → IsTree layout.tree → IsAffinityAmong layout cells one
    → IsAffinityAmong layout cells other → one ≡ other
same_affinity layout cells None None tree all none = refl
same_affinity layout cells None (Some b) tree all (some, lowest) = absurd (some.1.1 (all some.0 some.1.0))
same_affinity layout cells (Some a) None tree (some, lowest) all = absurd (some.1.1 (all some.0 some.1.0))
same_affinity layout cells (Some a) (Some b) tree (some, first) (more, second) = ap Some (same_lowest layout _ a b tree first second)

-- two lists of the locks are equal
pub same_locks : (layout : Hierarchy) (messages : List Message) (one other : List Cell) → ListsLocks layout messages one → ListsLocks layout messages other → one ≡ other
same_locks layout messages one other first second =
    let R = λ (a : Cell) (b : Cell). cell_cmp a b ≡ Less in
    let strict : (a b : Cell) → cell_cmp a b ≡ Less → cell_cmp b a ≡ Less → ⊥ = λ a b less more. let both = cell_cmp_total.antisymm a b in absurd (cc) in
    same_elements R strict one other
    (λ i j d before within. Less-from_sorted cell_cmp one i j d first.rising before within)
    (λ i j d before within. Less-from_sorted cell_cmp other i j d second.rising before within)
    (λ cell has. (second.each cell).1 ((first.each cell).0 has))
    (λ cell has. (first.each cell).1 ((second.each cell).0 has))

-- and two lists of the uses of locks
rising_pairs : (uses : List LockUse) → IsRising uses → AllPairs (λ u v. u.lock < v.lock) uses
rising_pairs uses rising i j d before within =
    rising i j (get_or uses i d) (get_or uses j d) before (slice_get-get_or uses i d (omega arith)) (slice_get-get_or uses j d within)

same_uses : (layout : Hierarchy) (ops : List Op) (locks : List Cell) (one other : List LockUse) → ListsUses layout ops locks one → ListsUses layout ops locks other
    → one ≡ other
same_uses layout ops locks one other first second =
    same_elements (λ (u : LockUse) (v : LockUse). u.lock < v.lock) (λ u v less more. absurd (omega arith)) one other
    (rising_pairs one first.rising) (rising_pairs other second.rising)
    (λ u has. (second.each u).1 ((first.each u).0 has))
    (λ u has. (first.each u).1 ((second.each u).0 has))

abbrev held : Option ℕ → List LockUse → Held
held affinity uses = record { affinity = affinity; uses = uses }

same_held : (layout : Hierarchy) (locks : List Cell) (message : Message) (one other : Held) → IsTree layout.tree → IsHeldBy layout locks message one
    → IsHeldBy layout locks message other → one ≡ other
same_held layout locks message one other tree first second =
    ap₂ held (same_affinity layout _ one.affinity other.affinity tree first.affinity second.affinity)
    (same_uses layout message.ops locks one.uses other.uses first.uses second.uses)

-- an assignment has at each place what the message holds
held_at : (layout : Hierarchy) (messages : List Message) (assigned : List Held) (h : IsAssignment layout messages assigned) → (k : ℕ) (message : Message)
    → slice_get messages k ≡ Some message → IsHeldBy layout h.locks message (get_or assigned k nothing)
held_at layout messages assigned h k message at =
    let place : k + 1 - 1 ≡ k = omega arith in
    subst (λ i. IsHeldBy layout h.locks message (get_or assigned i nothing)) place
    (h.each (k + 1) message (omega arith) (subst (λ i. slice_get messages i ≡ Some message) (sym place) at))

pub assignment_is_one : (layout : Hierarchy) (messages : List Message) → IsTree layout.tree → AssignmentIsOne layout messages
assignment_is_one layout messages tree assigned other first second =
    let locks : first.locks ≡ second.locks = same_locks layout messages first.locks second.locks first.numbered second.numbered in
    same_lists assigned other (first.count ∙ sym second.count)
    (λ k d within. elim ((slice_get_cases messages k).1) [
      | inl (message, short, at, read) ↦
          get_or_default assigned k d nothing within
          ∙ same_held layout second.locks message (get_or assigned k nothing) (get_or other k nothing) tree
          (subst (λ list. IsHeldBy layout list message (get_or assigned k nothing)) locks (held_at layout messages assigned first k message at))
          (held_at layout messages other second k message at)
          ∙ get_or_default other k nothing d (omega (arith, first.count, second.count))
      | inr (past, none) ↦ absurd (omega (arith, first.count))
    ])

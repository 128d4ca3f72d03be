-- Two traces under one layout: messages of the same operations exclude each other in both, or in neither, whatever numbers their locks have.
use Rattle.std.proofs.Common.{◌≡◌, ◌⊎◌, ℕ, ◌-◌, ◌<◌, ◌≤◌, inl, inr, true, List, length, Contains, Option, None, Some, slice_get, refl, sym, ◌∙◌, ap, subst, arith}
use Rattle.std.proofs.lemmas.Option.{get_or_from_slice_get, same_Some, slice_get-get_or, slice_get_within}
use Rattle.waff_model.specs.Cells.{cells_of}
use Rattle.waff_model.specs.Layout.{Hierarchy}
use Rattle.waff_model.specs.Tree.{IsTree, Node}
use Rattle.waff_model.specs.declared.cell.Cell.{Cell}
use Rattle.waff_model.specs.declared.message.Message.{Message}
use Rattle.waff_model.specs.declared.op.Op.{Op}
use Rattle.waff_model.proofs.TreeLemmas.{earlier}
use Rattle.waff_assign.specs.Held.{Contend, ExcludeEachOther, Held}
use Rattle.waff_assign.specs.Lowest.{IsAffinityAmong, IsAssignment, IsInFootprint, IsLowest, IsUseOf, ListsLocks, ListsUses}
use Rattle.waff_assign.specs.Order.{held_of}
use Rattle.waff_assign.specs.declared.held.LockUse.{LockUse}
use Rattle.waff_plan.specs.Timetable.{message_of, no_message}
use Rattle.waff_plan.specs.Work.{IsAmongFirst}

-- the affinity is one
same_lowest : (layout : Hierarchy) (Has : Cell → Type 0) (a b : ℕ) → IsTree layout.tree → IsLowest layout Has a → IsLowest layout Has b → a ≡ b
same_lowest layout Has a b tree first second =
    let up : a ≤ b = earlier layout.tree tree.rooted a b (second.lowest a first.covers) in
    let down : b ≤ a = earlier layout.tree tree.rooted b a (first.lowest b second.covers) in
    omega arith

same_affinity : (layout : Hierarchy) (cells : List Cell) (one other : Option ℕ) → IsTree layout.tree → IsAffinityAmong layout cells one
    → IsAffinityAmong layout cells other → one ≡ other
same_affinity layout cells None None tree all none = refl
same_affinity layout cells None (Some b) tree all (some, lowest) = absurd (some.1.1 (all some.0 some.1.0))
same_affinity layout cells (Some a) None tree (some, lowest) all = absurd (some.1.1 (all some.0 some.1.0))
same_affinity layout cells (Some a) (Some b) tree (some, first) (more, second) = ap Some (same_lowest layout _ a b tree first second)

-- what two messages hold that exclude each other
exclude_alike : (tree : List Node) (one other this that : Held) → this.affinity ≡ one.affinity → that.affinity ≡ other.affinity
    → ((lock : ℕ) × Contend one other lock → (lock : ℕ) × Contend this that lock) → ExcludeEachOther tree one other → ExcludeEachOther tree this that
exclude_alike tree one other this that first second locks (inl (a, b, is_a, is_b, excludes)) = inl (a, b, first ∙ is_a, second ∙ is_b, excludes)
exclude_alike tree one other this that first second locks (inr (inl (inl root))) = inr (inl (inl (first ∙ root)))
exclude_alike tree one other this that first second locks (inr (inl (inr root))) = inr (inl (inr (second ∙ root)))
exclude_alike tree one other this that first second locks (inr (inr contend)) = inr (inr (locks contend))

-- an element that is found at a place
found_at : {X : Type 0} (xs : List X) (i : ℕ) (x : X) → slice_get xs i ≡ Some x → Contains xs x
found_at xs i x is = (i, slice_get_within xs i x is, get_or_from_slice_get xs i x x is)

module _ (layout : Hierarchy) (from to : List Message) (locks others : List Cell) (numbered : ListsLocks layout from locks) (known : ListsLocks layout to others) where
  -- the lock of a cell, by its number among the others
  lock_there : (message : Message) → Contains to message → (cell : Cell) → Contains locks cell → IsInFootprint message.ops cell
      → (l : ℕ) × (slice_get others l ≡ Some cell)
  lock_there message has cell listed named =
      let locked = ((numbered.each cell).0 listed).0 in
      let (p, within, is) = (known.each cell).1 (locked, (message, has, named)) in
      (p, slice_get-get_or others p cell within ∙ ap Some is)

  use_there : (ops : List Op) (u : LockUse) (one : IsUseOf layout ops locks u) (l : ℕ) → slice_get others l ≡ Some one.cell
      → IsUseOf layout ops others (record { lock = l; alone = u.alone })
  use_there ops u one l is = record { cell = one.cell; numbered = is; named = one.named; alone = one.alone }

  contend_there : (first second : Message) → Contains to first → Contains to second → (one other this that : Held)
      → ListsUses layout first.ops locks one.uses → ListsUses layout second.ops locks other.uses
      → ListsUses layout first.ops others this.uses → ListsUses layout second.ops others that.uses
      → (lock : ℕ) × Contend one other lock → (lock : ℕ) × Contend this that lock
  contend_there first second has_first has_second one other this that uses more these those (lock, inl ((u, has, is, alone), (v, has_other, is_other))) =
      let first_use = (uses.each u).0 has in
      let again = (more.each v).0 has_other in
      let (l, at) = lock_there first has_first first_use.cell (found_at locks u.lock first_use.cell first_use.numbered) first_use.named in
      let same : again.cell ≡ first_use.cell
      = same_Some again.cell first_use.cell (sym again.numbered ∙ ap (slice_get locks) (is_other ∙ sym is) ∙ first_use.numbered) in (
        l,
        inl (
          (record { lock = l; alone = u.alone }, (these.each (record { lock = l; alone = u.alone })).1 (use_there first.ops u first_use l at), refl, alone),
          (
            record { lock = l; alone = v.alone },
            (those.each (record { lock = l; alone = v.alone })).1 (use_there second.ops v again l (at ∙ ap Some (sym same))),
            refl,
          ),
        ),
      )
  contend_there first second has_first has_second one other this that uses more these those (lock, inr ((u, has, is), (v, has_other, is_other, alone))) =
      let first_use = (uses.each u).0 has in
      let again = (more.each v).0 has_other in
      let (l, at) = lock_there first has_first first_use.cell (found_at locks u.lock first_use.cell first_use.numbered) first_use.named in
      let same : again.cell ≡ first_use.cell
      = same_Some again.cell first_use.cell (sym again.numbered ∙ ap (slice_get locks) (is_other ∙ sym is) ∙ first_use.numbered) in (
        l,
        inr (
          (record { lock = l; alone = u.alone }, (these.each (record { lock = l; alone = u.alone })).1 (use_there first.ops u first_use l at), refl),
          (
            record { lock = l; alone = v.alone },
            (those.each (record { lock = l; alone = v.alone })).1 (use_there second.ops v again l (at ∙ ap Some (sym same))),
            refl,
            alone,
          ),
        ),
      )

-- messages n and m of one trace have the operations of messages i and j of another
module _ (layout : Hierarchy) (tree : IsTree layout.tree) (from to : List Message) (assigned again : List Held) (is : IsAssignment layout from assigned)
    (that : IsAssignment layout to again) where
  pub excludes_there : (i j n m : ℕ) → IsAmongFirst (length from) i → IsAmongFirst (length from) j → IsAmongFirst (length to) n → IsAmongFirst (length to) m
      → (message_of from i).ops ≡ (message_of to n).ops → (message_of from j).ops ≡ (message_of to m).ops
      → ExcludeEachOther layout.tree (held_of assigned i) (held_of assigned j) → ExcludeEachOther layout.tree (held_of again n) (held_of again m)
  excludes_there i j n m at_i at_j at_n at_m same_first same_second =
      let read_i = slice_get-get_or from (i - 1) no_message (omega (arith, at_i.from, at_i.to)) in
      let read_j = slice_get-get_or from (j - 1) no_message (omega (arith, at_j.from, at_j.to)) in
      let read_n = slice_get-get_or to (n - 1) no_message (omega (arith, at_n.from, at_n.to)) in
      let read_m = slice_get-get_or to (m - 1) no_message (omega (arith, at_m.from, at_m.to)) in
      let one = is.each i (message_of from i) at_i.from read_i in
      let other = is.each j (message_of from j) at_j.from read_j in
      let this = that.each n (message_of to n) at_n.from read_n in
      let then = that.each m (message_of to m) at_m.from read_m in
      exclude_alike layout.tree (held_of assigned i) (held_of assigned j) (held_of again n) (held_of again m)
      (same_affinity layout _ (held_of again n).affinity (held_of assigned i).affinity tree
      this.affinity (subst (λ ops. IsAffinityAmong layout (cells_of ops) (held_of assigned i).affinity) same_first one.affinity))
      (same_affinity layout _ (held_of again m).affinity (held_of assigned j).affinity tree
      then.affinity (subst (λ ops. IsAffinityAmong layout (cells_of ops) (held_of assigned j).affinity) same_second other.affinity))
      (contend_there layout from to is.locks that.locks is.numbered that.numbered (message_of to n) (message_of to m)
      (found_at to (n - 1) (message_of to n) read_n) (found_at to (m - 1) (message_of to m) read_m)
      (held_of assigned i) (held_of assigned j) (held_of again n) (held_of again m)
      (subst (λ ops. ListsUses layout ops is.locks (held_of assigned i).uses) same_first one.uses)
      (subst (λ ops. ListsUses layout ops is.locks (held_of assigned j).uses) same_second other.uses)
      this.uses then.uses)

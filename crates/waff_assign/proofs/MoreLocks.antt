-- What more locks make of who excludes whom.
use Rattle.std.proofs.Common.{◌≡◌, ◌⊎◌, ◌↔◌, ℕ, ◌-◌, ◌<◌, ◌≤◌, inl, inr, List, length, Contains, Option, Some, None, option_map, slice_get, true, arith, refl, sym, ◌∙◌, ap, subst, unwrap_or}
use Rattle.std.proofs.lemmas.List.Elements.{All-contains}
use Rattle.std.proofs.lemmas.Option.{get_or_from_slice_get, same_Some, slice_get_cases, slice_get_within}
use Rattle.waff_model.specs.Cells.{cells_of, cells_written}
use Rattle.waff_model.specs.Layout.{Hierarchy, IsCell, IsLocked, Space, are_locked, locking_of, owner_of}
use Rattle.waff_model.specs.Messages.{Arrivals, IsMessage, IsTrace, sizes_of}
use Rattle.waff_model.specs.Tree.{AtOrAbove, Excludes, IsTree, Node}
use Rattle.waff_model.specs.declared.cell.Cell.{Cell}
use Rattle.waff_model.specs.declared.locking.Locking.{Locking}
use Rattle.waff_model.specs.declared.locking.Locking.TheVariants.{Unlocked, Exclusive, Shared}
use Rattle.waff_model.specs.declared.message.Message.{Message}
use Rattle.waff_model.specs.declared.op.Op.{Op}
use Rattle.waff_model.proofs.TreeLemmas.{comparable, earlier, transitive}
use Rattle.waff_assign.specs.Held.{Contend, ExcludeEachOther, Held}
use Rattle.waff_assign.specs.Lowest.{Covers, IsAffinityOf, IsAssignment, IsHeldBy, IsInFootprint, IsUnlockedAmong, ListsLocks}
use Rattle.waff_assign.specs.MoreLocks.{AreAllLocked, HasMoreLocks, Meet, MeetAt}
use Rattle.waff_assign.specs.Order.{held_of}
use Rattle.waff_assign.specs.declared.held.LockUse.{LockUse}
use Rattle.waff_assign.proofs.Assignments.{cells_of_layout}
use Rattle.waff_assign.proofs.CommonCells.{common_cell_excludes}
use Rattle.waff_assign.proofs.Holding.{affinities_do, exclude_sym, root_excludes}

-- who uses a lock alone and another who uses it meet at its cell
pub record MeetByLock (layout : Hierarchy) (one other : List Op) (cell : Cell) : Type 0 where
  pub first : IsInFootprint one cell
  pub second : IsInFootprint other cell
  pub alone : (locking_of layout.spaces cell ≡ Exclusive) ⊎ (Contains (cells_written one) cell ⊎ Contains (cells_written other) cell)

not_both : (spaces : List Space) (cell : Cell) → locking_of spaces cell ≡ Exclusive → locking_of spaces cell ≡ Shared → ⊥
not_both spaces cell exclusive shared = let both : Exclusive ≡ Shared = sym exclusive ∙ shared in absurd (cc)

meet_at : (layout : Hierarchy) (one other : List Op) (cell : Cell) → MeetByLock layout one other cell → MeetAt layout one other cell
meet_at layout one other cell h = record {
  first = h.first;
  second = h.second;
  written = λ shared. elim h.alone [
    | inl exclusive ↦ absurd (not_both layout.spaces cell exclusive shared)
    | inr written ↦ written
  ];
}

module _ (layout : Hierarchy) (messages : List Message) (locks : List Cell) (lists : ListsLocks layout messages locks) where
  alone_meets : (one other : Message) (held more : Held) → IsHeldBy layout locks one held → IsHeldBy layout locks other more
      → (u v : LockUse) → Contains held.uses u → Contains more.uses v → u.lock ≡ v.lock → u.alone ≡ true
      → (cell : Cell) × MeetByLock layout one.ops other.ops cell
  alone_meets one other held more first second u v has has_too same alone =
      let by = (first.uses.each u).0 has in
      let too = (second.uses.each v).0 has_too in
      let here : too.cell ≡ by.cell = same_Some too.cell by.cell (sym too.numbered ∙ ap (slice_get locks) (sym same) ∙ by.numbered) in (
        by.cell,
        record {
          first = by.named;
          second = subst (IsInFootprint other.ops) here too.named;
          alone = elim (by.alone.0 alone) [
            | inl exclusive ↦ inl exclusive
            | inr writes ↦ inr (inl writes)
          ];
        },
      )

  -- two that contend for a lock meet at its cell
  contend_meets : (one other : Message) (held more : Held) → IsHeldBy layout locks one held → IsHeldBy layout locks other more
      → (lock : ℕ) → Contend held more lock → (cell : Cell) × MeetByLock layout one.ops other.ops cell
  contend_meets one other held more first second lock (inl ((u, has, is, alone), (v, has_too, is_too))) =
      alone_meets one other held more first second u v has has_too (is ∙ sym is_too) alone
  contend_meets one other held more first second lock (inr ((u, has, is), (v, has_too, is_too, alone))) =
      let (cell, met) = alone_meets other one more held second first v u has_too has (is_too ∙ sym is) alone in (
        cell,
        record {
          first = met.second;
          second = met.first;
          alone = elim met.alone [
            | inl exclusive ↦ inl exclusive
            | inr (inl writes) ↦ inr (inr writes)
            | inr (inr writes) ↦ inr (inl writes)
          ];
        },
      )

  -- where all cells have locks no one has an affinity
  no_affinity : (ops : List Op) (o : Option ℕ) (a : ℕ) → ((cell : Cell) → IsInFootprint ops cell → IsLocked layout.spaces cell) → IsAffinityOf layout ops o
      → o ≡ Some a → ⊥
  no_affinity ops None a locked affinity is = absurd (cc)
  no_affinity ops (Some b) a locked (some, lowest) is = some.1.1 (locked some.0 some.1.0)

  exclude_meet : (one other : Message) (held more : Held) → IsHeldBy layout locks one held → IsHeldBy layout locks other more
      → ((cell : Cell) → IsInFootprint one.ops cell → IsLocked layout.spaces cell)
      → ((cell : Cell) → IsInFootprint other.ops cell → IsLocked layout.spaces cell)
      → ExcludeEachOther layout.tree held more → Meet layout one.ops other.ops
  exclude_meet one other held more first second locked locked_too (inl (a, b, is_a, is_b, excludes)) =
      absurd (no_affinity one.ops held.affinity a locked first.affinity is_a)
  exclude_meet one other held more first second locked locked_too (inr (inl (inl root))) =
      absurd (no_affinity one.ops held.affinity 0 locked first.affinity root)
  exclude_meet one other held more first second locked locked_too (inr (inl (inr root))) =
      absurd (no_affinity other.ops more.affinity 0 locked_too second.affinity root)
  exclude_meet one other held more first second locked locked_too (inr (inr (lock, contend))) =
      let (cell, met) = contend_meets one other held more first second lock contend in
      (cell, meet_at layout one.ops other.ops cell met)

-- a cell of spaces that all have locks has one
cell_locked : (spaces : List Space) → AreAllLocked spaces → (cell : Cell) → IsCell spaces cell → IsLocked spaces cell
cell_locked spaces all cell inside = by (slice_get spaces cell.space) refl inside
  where
    not_unlocked : (locking : Locking) → are_locked locking ≡ true → locking ≡ Unlocked → ⊥
    not_unlocked Unlocked locked is = absurd (cc)
    not_unlocked Exclusive locked is = absurd (cc)
    not_unlocked Shared locked is = absurd (cc)

    by : (o : Option Space) → slice_get spaces cell.space ≡ o → cell.index < unwrap_or (option_map (λ (s : Space). s.size) o) 0
        → unwrap_or (option_map (λ (s : Space). s.locks) o) Unlocked ≡ Unlocked → ⊥
    by None is none unlocked = absurd (omega (arith, none))
    by (Some space) is within unlocked =
        let has : Contains spaces space = (cell.space, slice_get_within spaces cell.space space is, get_or_from_slice_get spaces cell.space space space is) in
        not_unlocked space.locks (All-contains (λ (s : Space). are_locked s.locks ≡ true) spaces space all has) unlocked

pub all_locked_meet : (layout : Hierarchy) → AreAllLocked layout.spaces → (trace : Arrivals) (assigned : List Held) → IsTrace trace
    → trace.sizes ≡ sizes_of layout.spaces → IsAssignment layout trace.messages assigned
    → (i j : ℕ) (one other : Message) → 1 ≤ i → 1 ≤ j → slice_get trace.messages (i - 1) ≡ Some one → slice_get trace.messages (j - 1) ≡ Some other
    → ExcludeEachOther layout.tree (held_of assigned i) (held_of assigned j) ↔ Meet layout one.ops other.ops
all_locked_meet layout all trace assigned within sizes assignment i j one other from_i from_j is_i is_j = (
  λ exclude.
      exclude_meet layout trace.messages assignment.locks assignment.numbered one other (held_of assigned i) (held_of assigned j)
      (assignment.each i one from_i is_i) (assignment.each j other from_j is_j) (locked (i - 1) one is_i) (locked (j - 1) other is_j) exclude,
  λ met.
      let (cell, at) = met in
      common_cell_excludes layout trace.messages assigned assignment i j one other cell from_i from_j is_i is_j at.first at.second at.written,
)
  where
    locked : (k : ℕ) (message : Message) → slice_get trace.messages k ≡ Some message → (cell : Cell) → IsInFootprint message.ops cell → IsLocked layout.spaces cell
    locked k message is cell named =
        let has : Contains trace.messages message = (k, slice_get_within trace.messages k message is, get_or_from_slice_get trace.messages k message message is) in
        let fits = All-contains (IsMessage trace.version trace.sizes) trace.messages message within.messages has in
        cell_locked layout.spaces all cell
        (All-contains (IsCell layout.spaces) (cells_of message.ops) cell (cells_of_layout trace.sizes layout.spaces (cells_of message.ops) sizes fits.cells) named)

-- more locks
module _ (layout more : Hierarchy) (h : HasMoreLocks layout more) where
  -- what covers the cells without locks of the one covers those of the other
  covers_less : (ops : List Op) (a : ℕ) → Covers layout (IsUnlockedAmong layout (cells_of ops)) a → Covers more (IsUnlockedAmong more (cells_of ops)) a
  covers_less ops a covers cell has =
      let free : IsLocked layout.spaces cell → ⊥ = λ locked. has.1 (h.locked cell locked) in
      let above : AtOrAbove layout.tree a (owner_of layout.spaces cell) = covers cell (has.0, free) in
      subst (λ (t : List Node). AtOrAbove t a (owner_of more.spaces cell)) (sym h.tree)
      (subst (λ b. AtOrAbove layout.tree a b) (sym (h.owners cell)) above)

  -- an affinity with more locks has one above it with fewer
  above_more : (ops : List Op) (one other : Option ℕ) (b : ℕ) → IsAffinityOf layout ops one → IsAffinityOf more ops other → other ≡ Some b
      → (a : ℕ) × (one ≡ Some a) × AtOrAbove layout.tree a b
  above_more ops one None b fewer affinity is = absurd (cc)
  above_more ops None (Some c) b fewer (some, lowest) is =
      absurd (some.1.1 (h.locked some.0 (fewer some.0 some.1.0)))
  above_more ops (Some a) (Some c) b (some_low, low) (some, lowest) is =
      let above : AtOrAbove more.tree a c = lowest.lowest a (covers_less ops a low.covers) in
      let same : c ≡ b = same_Some c b is in
      (a, refl, subst (λ n. AtOrAbove layout.tree a n) same (subst (λ (t : List Node). AtOrAbove t a c) h.tree above))

  -- two that are above two of which one is above the other exclude each other
  above_both : (a b c d : ℕ) → AtOrAbove layout.tree a c → AtOrAbove layout.tree b d → Excludes layout.tree c d → Excludes layout.tree a b
  above_both a b c d above_c above_d (inl over) = comparable layout.tree a b d (transitive layout.tree a c d above_c over) above_d
  above_both a b c d above_c above_d (inr over) = comparable layout.tree a b c above_c (transitive layout.tree b d c above_d over)

  module _ (tree : IsTree layout.tree) (messages : List Message) (fewer_locks more_locks : List Cell) (lists : ListsLocks more messages more_locks)
      (one other : Message) (held with held_too with_too : Held) (first : IsHeldBy layout fewer_locks one held) (second : IsHeldBy layout fewer_locks other held_too)
      (first_with : IsHeldBy more more_locks one with) (second_with : IsHeldBy more more_locks other with_too)
      (by_cell : (cell : Cell) → IsInFootprint one.ops cell → IsInFootprint other.ops cell
      → (locking_of layout.spaces cell ≡ Shared → Contains (cells_written one.ops) cell ⊎ Contains (cells_written other.ops) cell)
      → ExcludeEachOther layout.tree held held_too) where
    in_root : (ops : List Op) (held with : Held) → IsAffinityOf layout ops held.affinity → IsAffinityOf more ops with.affinity → with.affinity ≡ Some 0
        → held.affinity ≡ Some 0
    in_root ops held with fewer affinity root =
        let (a, is, above) = above_more ops held.affinity with.affinity 0 fewer affinity root in
        let low : a ≤ 0 = earlier layout.tree tree.rooted a 0 above in
        let top : a ≡ 0 = omega arith in
        is ∙ ap Some top

    did_before : ExcludeEachOther more.tree with with_too → ExcludeEachOther layout.tree held held_too
    did_before (inl (c, d, is_c, is_d, excludes)) =
        let (a, is_a, above_a) = above_more one.ops held.affinity with.affinity c first.affinity first_with.affinity is_c in
        let (b, is_b, above_b) = above_more other.ops held_too.affinity with_too.affinity d second.affinity second_with.affinity is_d in
        affinities_do layout.tree held held_too a b is_a is_b
        (above_both a b c d above_a above_b (subst (λ (t : List Node). Excludes t c d) h.tree excludes))
    did_before (inr (inl (inl root))) = root_excludes layout.tree held held_too (in_root one.ops held with first.affinity first_with.affinity root)
    did_before (inr (inl (inr root))) =
        exclude_sym layout.tree held_too held (root_excludes layout.tree held_too held (in_root other.ops held_too with_too second.affinity second_with.affinity root))
    did_before (inr (inr (lock, contend))) =
        let (cell, met) = contend_meets more messages more_locks lists one other with with_too first_with second_with lock contend in
        by_cell cell met.first met.second (λ shared. elim met.alone [
          | inl exclusive ↦ absurd (not_both more.spaces cell exclusive (h.shared cell shared))
          | inr written ↦ written
        ])

pub more_locks_exclude_no_more : (layout more : Hierarchy) → IsTree layout.tree → HasMoreLocks layout more
    → (messages : List Message) (assigned others : List Held) → IsAssignment layout messages assigned → IsAssignment more messages others
    → (i j : ℕ) → 1 ≤ i → i ≤ length messages → 1 ≤ j → j ≤ length messages
    → ExcludeEachOther more.tree (held_of others i) (held_of others j) → ExcludeEachOther layout.tree (held_of assigned i) (held_of assigned j)
more_locks_exclude_no_more layout more tree h messages assigned others assignment another i j from_i to_i from_j to_j exclude =
    let (one, is_i) = message_at i from_i to_i in
    let (other, is_j) = message_at j from_j to_j in
    did_before layout more h tree messages assignment.locks another.locks another.numbered one other (held_of assigned i) (held_of others i) (held_of assigned j)
    (held_of others j) (assignment.each i one from_i is_i) (assignment.each j other from_j is_j) (another.each i one from_i is_i) (another.each j other from_j is_j)
    (λ cell named named_too written. common_cell_excludes layout messages assigned assignment i j one other cell from_i from_j is_i is_j named named_too written)
    exclude
  where
    message_at : (n : ℕ) → 1 ≤ n → n ≤ length messages → (message : Message) × (slice_get messages (n - 1) ≡ Some message)
    message_at n from to = elim ((slice_get_cases messages (n - 1)).1) [
      | inl (message, short, at, read) ↦ (message, at)
      | inr (past, none) ↦ absurd (omega arith)
    ]

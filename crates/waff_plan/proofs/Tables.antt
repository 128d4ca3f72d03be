-- The tables: which messages their entries speak of, and which one a message excludes.
use Rattle.std.proofs.Common.{◌≡◌, ◌⊎◌, ℕ, ◌<◌, inl, inr, true, List, [], ◌∷◌, length, get_or, Contains, ◌++◌, Option, Some, None, arith, refl, sym, ◌∙◌, ap, subst}
use Rattle.std.proofs.lemmas.List.Elements.{Contains-get_or, Contains-push_cases}
use Rattle.std.proofs.lemmas.Option.{same_Some}
use Rattle.waff_model.specs.Numbers.{IsAmongFirst}
use Rattle.waff_model.specs.Tree.{Node, AtOrAbove, Excludes, IsTree}
use Rattle.waff_model.specs.Preorder.{AreNested, Spans, span_at}
use Rattle.waff_model.specs.declared.preorder.Span.{Span}
use Rattle.waff_model.proofs.TreeLemmas.{above_root}
use Rattle.waff_assign.specs.Held.{AffinitiesExclude, AreKnown, Contend, ExcludeEachOther, Held, IsHeldWithin, IsInRoot, UsesLock, using}
use Rattle.waff_assign.specs.Order.{affinity_of, held_of}
use Rattle.waff_assign.specs.declared.held.LockUse.{LockUse}
use Rattle.waff_assign.proofs.Climbs.{root_above}
use Rattle.waff_assign.proofs.Holding.{held_known}
use Rattle.waff_plan.specs.Latest.{later_of, IsFound}
use Rattle.waff_plan.specs.Table.{IsLatestByLocks, IsLatestByTree, IsLatestExcluding, IsLatestMeeting, IsTable, LatestTable, Meets, StandsOver}
use Rattle.waff_plan.specs.declared.latest.Latest.{Latest}
use Rattle.waff_plan.proofs.Latests.{found_either, found_same}
use Rattle.waff_plan.proofs.LockTables.{locks_again}
use Rattle.waff_plan.proofs.PlaceTables.{places_again}

-- a message has an affinity or uses a lock
affinity_or_lock : (count : ℕ) (held : Held) → IsHeldWithin count held → ((a : ℕ) × (held.affinity ≡ Some a) × (a < count)) ⊎ ((lock : ℕ) × UsesLock held lock)
affinity_or_lock count held within = cases held.affinity refl
  where
    cases : (affinity : Option ℕ) → held.affinity ≡ affinity → ((a : ℕ) × (held.affinity ≡ Some a) × (a < count)) ⊎ ((lock : ℕ) × UsesLock held lock)
    cases None is =
        let u : LockUse = get_or held.uses 0 (record { lock = 0; alone = true }) in
        inr (u.lock, (u, Contains-get_or held.uses 0 (record { lock = 0; alone = true }) (within.some is), refl))
    cases (Some a) is = inl (a, is, within.affinity a is)

module _ (tree : List Node) (spans : List Span) (assigned : List Held) (finish : ℕ → ℕ) (noted : List ℕ) (is_tree : IsTree tree) (nested : AreNested tree spans)
    (known : AreKnown tree assigned) (numbers : (i : ℕ) → Contains noted i → IsAmongFirst (length assigned) i) where
  affinity_within : (i a : ℕ) → Contains noted i → affinity_of assigned i ≡ Some a → a < length tree
  affinity_within i a there is = (held_known tree assigned i known (numbers i there).from (numbers i there).to).affinity a is

  -- those meet whose affinities exclude each other
  pub meeting_excludes : (a : ℕ) (held : Held) (latest : Option Latest) → a < length tree → held.affinity ≡ Some a
      → IsLatestMeeting spans assigned finish noted (span_at spans a) latest → IsLatestByTree tree assigned finish noted held latest
  meeting_excludes a held latest within is found =
      found_same (λ i. Contains noted i × Meets spans assigned (span_at spans a) i) (λ i. Contains noted i × AffinitiesExclude tree (held_of assigned i) held) finish latest
      (λ i h.
      let (there, (other, (b, b_is, at), meets)) = h in
      let b_within = affinity_within i b there b_is in
      let one : Spans (span_at spans b) (span_at spans a) ⊎ Spans (span_at spans a) (span_at spans b)
      = subst (λ (s : Span). Spans s (span_at spans a) ⊎ Spans (span_at spans a) s) (sym at) meets in (
        there,
        (
          b,
          a,
          b_is,
          is,
          elim one [
            | inl over ↦ inl ((nested.tells b a b_within within).0 over)
            | inr under ↦ inr ((nested.tells a b within b_within).0 under)
          ],
        ),
      ))
      (λ i h.
      let (there, (b, c, b_is, c_is, excludes)) = h in
      let b_within = affinity_within i b there b_is in
      let same : c ≡ a = same_Some c a (sym c_is ∙ is) in
      let one : Excludes tree b a = subst (Excludes tree b) same excludes in (
        there,
        (
          span_at spans b,
          (b, b_is, refl),
          elim one [
            | inl over ↦ inl ((nested.tells b a b_within within).1 over)
            | inr under ↦ inr ((nested.tells a b within b_within).1 under)
          ],
        ),
      ))
      found

  module _ (m : ℕ) (number : IsAmongFirst (length assigned) m) where
    abbrev held : Held
    held = held_of assigned m

    abbrev ByTree : ℕ → Type 0
    ByTree i = Contains noted i × AffinitiesExclude tree (held_of assigned i) held

    abbrev All : ℕ → Type 0
    All i = Contains noted i × ExcludeEachOther tree (held_of assigned i) held

    -- a message in the root excludes all: those that have an affinity, and those that use a lock
    pub root_excluding : (by_tree some : Option Latest) → IsInRoot held → IsLatestByTree tree assigned finish noted held by_tree
        → IsFound (λ i. Contains noted i × ((lock : ℕ) × UsesLock (held_of assigned i) lock)) finish some
        → IsLatestExcluding tree assigned finish noted m (later_of by_tree some)
    root_excluding by_tree some root one other =
        let Users : ℕ → Type 0 = λ i. Contains noted i × ((lock : ℕ) × UsesLock (held_of assigned i) lock) in
        found_same (λ i. ByTree i ⊎ Users i) All finish (later_of by_tree some)
        (λ i either. elim either [ inl there ↦ (there.0, inl there.1) | inr there ↦ (there.0, inr (inl (inr root))) ])
        (λ i all. elim (affinity_or_lock (length tree) (held_of assigned i) (held_known tree assigned i known (numbers i all.0).from (numbers i all.0).to)) [
          | inl some ↦ inl (all.0, (some.0, 0, some.1, root, inr (root_above tree is_tree some.0 some.2)))
          | inr uses ↦ inr (all.0, uses)
        ])
        (found_either ByTree Users finish by_tree some one other)

    -- what is in the root excludes by its affinity each message that has one
    root_by_tree : (i a : ℕ) → IsInRoot (held_of assigned i) → held.affinity ≡ Some a → AffinitiesExclude tree (held_of assigned i) held
    root_by_tree i a root is = (0, a, root, is, inl (root_above tree is_tree a ((held_known tree assigned m known number.from number.to).affinity a is)))

    -- a message outside the root that uses no lock excludes by its affinity
    pub tree_excluding : (by_tree : Option Latest) → (IsInRoot held → ⊥) → length held.uses ≡ 0 → IsLatestByTree tree assigned finish noted held by_tree
        → IsLatestExcluding tree assigned finish noted m by_tree
    tree_excluding by_tree below none found =
        let unused = λ (lock : ℕ) (uses : UsesLock held lock). let no : ⊥ = omega (arith, uses.1.1, none) in no in
        found_same ByTree All finish by_tree (λ i there. (there.0, inl there.1))
        (λ i all. (
          all.0,
          elim all.1 [
            | inl excludes ↦ excludes
            | inr (inl (inl root)) ↦ elim (affinity_or_lock (length tree) held (held_known tree assigned m known number.from number.to)) [
              | inl some ↦ root_by_tree i some.0 root some.1
              | inr uses ↦ absurd (unused uses.0 uses.1)
            ]
            | inr (inl (inr root)) ↦ absurd (below root)
            | inr (inr (lock, inl alone)) ↦ absurd (unused lock alone.1)
            | inr (inr (lock, inr alone)) ↦ absurd (unused lock (alone.1.0, alone.1.1, alone.1.2))
          ],
        ))
        found

    -- a message outside the root excludes by its affinity, what is in the root, and by its locks
    pub locks_excluding : (by_tree in_root by_locks : Option Latest) (uses : List LockUse) → (IsInRoot held → ⊥) → held.uses ≡ uses
        → IsLatestByTree tree assigned finish noted held by_tree
        → IsFound (λ i. Contains noted i × StandsOver spans assigned i (span_at spans 0).first) finish in_root
        → IsLatestByLocks assigned finish noted (using uses) by_locks
        → IsLatestExcluding tree assigned finish noted m (later_of (later_of by_tree in_root) by_locks)
    locks_excluding by_tree in_root by_locks uses below are one two three =
        let Over : ℕ → Type 0 = λ i. Contains noted i × StandsOver spans assigned i (span_at spans 0).first in
        let ByLocks : ℕ → Type 0 = λ i. Contains noted i × ((lock : ℕ) × Contend (held_of assigned i) held lock) in
        let by : IsFound ByLocks finish by_locks
        = subst (λ us. IsFound (λ i. Contains noted i × ((lock : ℕ) × Contend (held_of assigned i) (using us) lock)) finish by_locks) (sym are) three in
        let filled : 0 < length tree = is_tree.filled in
        found_same (λ i. (ByTree i ⊎ Over i) ⊎ ByLocks i) All finish (later_of (later_of by_tree in_root) by_locks)
        (λ i either. elim either [
          | inl (inl there) ↦ (there.0, inl there.1)
          | inl (inr there) ↦
              let (noted_i, (span, (b, b_is, at), from, to)) = there in
              let over : Spans (span_at spans b) (span_at spans 0) = subst (λ (s : Span). Spans s (span_at spans 0)) (sym at) (from, to) in
              let above : AtOrAbove tree b 0 = (nested.tells b 0 (affinity_within i b noted_i b_is) filled).0 over in
              let root : b ≡ 0 = above_root tree b 0 is_tree.rooted.root above in
              (noted_i, inr (inl (inl (b_is ∙ ap Some root))))
          | inr there ↦ (there.0, inr (inr there.1))
        ])
        (λ i all. elim all.1 [
          | inl excludes ↦ inl (inl (all.0, excludes))
          | inr (inl (inl root)) ↦ inl (inr (all.0, (span_at spans 0, (0, root, refl), omega arith, nested.filled 0 filled)))
          | inr (inl (inr root)) ↦ absurd (below root)
          | inr (inr contend) ↦ inr (all.0, contend)
        ])
        (found_either (λ i. ByTree i ⊎ Over i) ByLocks finish (later_of by_tree in_root) by_locks (found_either ByTree Over finish by_tree in_root one two) by)

-- of a table of a tree and of what is held, the same of these
pub excluding_under : (tree : List Node) (assigned : List Held) (table : LatestTable) (finish : ℕ → ℕ) (noted : List ℕ) (m : ℕ) (latest : Option Latest)
    → table.tree ≡ tree → table.assigned ≡ assigned → IsLatestExcluding table.tree table.assigned finish noted m latest
    → IsLatestExcluding tree assigned finish noted m latest
excluding_under tree assigned table finish noted m latest same_tree same_held found =
    subst (λ held. IsLatestExcluding tree held finish noted m latest) same_held
    (subst (λ nodes. IsLatestExcluding nodes table.assigned finish noted m latest) same_tree found)

-- one more message is one of them
pub numbers_more : (count : ℕ) (noted : List ℕ) (m : ℕ) → IsAmongFirst count m → ((i : ℕ) → Contains noted i → IsAmongFirst count i)
    → (i : ℕ) → Contains (noted ++ m ∷ []) i → IsAmongFirst count i
numbers_more count noted m number numbers i there = elim (Contains-push_cases noted m i there) [
  | inl old ↦ numbers i old
  | inr new ↦ subst (IsAmongFirst count) new number
]

-- with the same finishes the table is the same
pub table_again : (finish again : ℕ → ℕ) (noted : List ℕ) (table : LatestTable)
    → ((i : ℕ) → Contains noted i → again i ≡ finish i) → IsTable finish noted table → IsTable again noted table
table_again finish again noted table same h = record {
  numbers = h.numbers;
  places = places_again table.spans table.assigned finish noted again table.places same h.places;
  locks = locks_again table.assigned finish noted again table.locks same h.locks;
}

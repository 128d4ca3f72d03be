-- What a message gathers is what it needs at the places that it holds.
use Rattle.std.proofs.Common.{◌≡◌, ℕ, zero, suc, ◌+◌, ◌*◌, ◌<◌, ◌≤◌, ◌⊎◌, inl, inr, List, [], ◌∷◌, ◌++◌, length, get_or, max, Contains, Option, Some, None, Bool, true, false, is_some, arith, refl, sym, ◌∙◌, ap, subst}
use Rattle.std.specs.Prelude.{flat_map, if◌then◌else◌}
use Rattle.std.proofs.lemmas.Bool.{cases_order}
use Rattle.std.proofs.lemmas.List.{length-append}
use Rattle.std.proofs.lemmas.List.Concat.{length-flat_map}
use Rattle.std.proofs.lemmas.List.Elements.{Contains-append_cases, Contains-append_left, Contains-append_right}
use Rattle.waff_model.specs.Tree.{Node, AtOrAbove, IsTree}
use Rattle.waff_model.specs.Preorder.{AreNested, span_at}
use Rattle.waff_model.specs.Spans.{map_in, messages_in}
use Rattle.waff_model.specs.declared.preorder.Span.{Span}
use Rattle.waff_model.proofs.Members.{in_none, in_cases}
use Rattle.waff_model.proofs.SpanLemmas.{held, held-put, held-taken}
use Rattle.waff_assign.specs.Held.{AreKnown, Held, IsHeldWithin, count_held}
use Rattle.waff_assign.specs.Order.{held_of}
use Rattle.waff_assign.specs.declared.held.LockUse.{LockUse}
use Rattle.waff_assign.proofs.Holding.{held_known}
use Rattle.waff_order.specs.Open.{Holds, IsChosen, IsNeededAt, IsOpen, IsOpenBelow, Place, affinity, below, lock}
use Rattle.waff_order.specs.Runs.{AreGathered, chosen}
use Rattle.waff_order.specs.Gathering.{needs_in, opened_after}
use Rattle.waff_order.specs.Joined.{AreHeld, AreLatest, IsNoted, IsTaken, root_of}
use Rattle.waff_order.specs.Takers.{AreTouched, LockState, needs_at, needs_by, note_uses, opened_at, opened_by, opened_count, state_at}
use Rattle.waff_order.proofs.ChosenLemmas.{rising_few}
use Rattle.waff_order.proofs.Closure.{IsFound, chosen_of, needed_of}
use Rattle.waff_order.proofs.Counting.{all_opened, count_none, count_noted, count_uses, from_flat, in_flat, length-chosen, opened_all}
use Rattle.waff_order.proofs.Holding.{found_tree, taken_tree}
use Rattle.waff_order.proofs.LockHolding.{found_below, found_lock, open_opened, opened_cases, opened_open, opened_within}
use Rattle.waff_order.proofs.Places.{over_transitive, root_over}
use Rattle.waff_order.proofs.Steps.{latest_open}

-- the latest is one
pub noted_is_one : (tree : List Node) (assigned : List Held) (n : ℕ) (p : Place) (v w : ℕ) → IsNoted tree assigned n p v → IsNoted tree assigned n p w → v ≡ w
noted_is_one tree assigned n p v w one other = elim (cases_order v w) [
  | inl same ↦ same
  | inr (inl less) ↦
      let there = other.some (omega arith) in
      let back : w ≤ v = one.latest w there.to there.from there.over in
      absurd (omega arith)
  | inr (inr more) ↦
      let there = one.some (omega arith) in
      let back : v ≤ w = other.latest v there.to there.from there.over in
      absurd (omega arith)
]

-- what is chosen is taken, or the latest above
chosen_taken : (taken : List ℕ) (above i : ℕ) → Contains taken i → Contains (chosen taken above) i
chosen_taken [] above i has = absurd (in_none i has)
chosen_taken (one ∷ rest) above i has = has

chosen_cases : (taken : List ℕ) (above i : ℕ) → Contains (chosen taken above) i → Contains taken i ⊎ ((0 < above) × (i ≡ above))
chosen_cases [] above i has = by above has
  where
    by : (above : ℕ) → Contains (chosen [] above) i → Contains [] i ⊎ ((0 < above) × (i ≡ above))
    by zero none = absurd (in_none i none)
    by (suc a) one = elim (in_cases (suc a) [] i one) [ inl same ↦ inr (omega arith, sym same) | inr none ↦ inl none ]
chosen_cases (one ∷ rest) above i has = inl has

-- the needs of the tree, and what is open in it after them
count_tree : (spans : List Span) (opened latest : List ℕ) (m : ℕ) (o : Option ℕ)
    → length (needs_in spans opened latest o) + held (opened_after spans opened m o) ≤ held opened + 2 * (if is_some o then 1 else 0)
count_tree spans opened latest m None = omega arith
count_tree spans opened latest m (Some a) =
    let first = (span_at spans a).first in
    let end = (span_at spans a).end in
    let few = length-chosen (messages_in opened first end) (get_or latest first 0) in
    let put = held-put (map_in (λ x. 0) opened first end) first m in
    let left = held-taken opened first end in
    omega (arith, few, put, left)

module _ (tree : List Node) (spans : List Span) (is_tree : IsTree tree) (nested : AreNested tree spans) (assigned : List Held) (known : AreKnown tree assigned)
    (n : ℕ) (room : n + 1 ≤ length assigned) (opened latest : List ℕ) (are_held : AreHeld tree spans assigned n opened)
    (are_latest : AreLatest tree spans assigned n latest) (states : List LockState) (taken : (l : ℕ) → IsTaken assigned n l (state_at states l))
    (touched : List ℕ) (touches : AreTouched (root_of spans latest) states touched) where
  abbrev root : ℕ
  root = root_of spans latest

  abbrev mine : Held
  mine = held_of assigned (n + 1)

  few : n ≤ length assigned
  few = omega arith

  rooted : IsNoted tree assigned n (affinity 0) root
  rooted = are_latest 0 is_tree.filled

  within : IsHeldWithin (length tree) mine
  within = held_known tree assigned (n + 1) known (omega arith) room

  at_lock : (l : ℕ) → IsFound tree assigned n (lock l) (opened_at root (state_at states l)) (max (state_at states l).alone root)
  at_lock l = found_lock tree is_tree assigned known n few root rooted l (state_at states l) (taken l)

  at_below : (l m : ℕ) → n < m → IsFound tree assigned n (below l m) [] (max (state_at states l).alone root)
  at_below l m later = found_below tree is_tree assigned known n few root rooted l (state_at states l) (taken l) m later

  -- a message that is not in the root
  module _ (apart : ¬ (mine.affinity ≡ Some 0)) where
    at_tree : (a : ℕ) → mine.affinity ≡ Some a
        → IsFound tree assigned n (affinity a) (messages_in opened (span_at spans a).first (span_at spans a).end) (get_or latest (span_at spans a).first 0)
    at_tree a is = found_tree tree spans nested assigned known n opened latest few are_held are_latest a (within.affinity a is)
        (λ none. apart (is ∙ ap Some none))

    -- what is found at each place that it holds
    pub found_place : (p : Place) → Holds assigned (n + 1) p → (list : List ℕ) × (above : ℕ) × IsFound tree assigned n p list above
    found_place (affinity a) is =
        (messages_in opened (span_at spans a).first (span_at spans a).end, get_or latest (span_at spans a).first 0, at_tree a is)
    found_place (lock l) is = (opened_at root (state_at states l), max (state_at states l).alone root, at_lock l)
    found_place (below l m) is = ([], max (state_at states l).alone root, at_below l m (omega (arith, is.0)))

    tree_needed : (i : ℕ) (o : Option ℕ) → mine.affinity ≡ o → Contains (needs_in spans opened latest o) i
        → (at : Place) × Holds assigned (n + 1) at × IsNeededAt tree assigned n i at
    tree_needed i None is has = absurd (in_none i has)
    tree_needed i (Some a) is has = (
      affinity a,
      is,
      needed_of tree assigned n (affinity a) (messages_in opened (span_at spans a).first (span_at spans a).end)
          (get_or latest (span_at spans a).first 0) i (at_tree a is) has,
    )

    needed_tree : (i a : ℕ) → IsNeededAt tree assigned n i (affinity a) → (o : Option ℕ) → mine.affinity ≡ Some a → o ≡ Some a → Contains (needs_in spans opened latest o) i
    needed_tree i a needed o is same =
        subst (λ x. Contains (needs_in spans opened latest x) i) (sym same)
        (chosen_of tree assigned n (affinity a) (messages_in opened (span_at spans a).first (span_at spans a).end)
        (get_or latest (span_at spans a).first 0) i (at_tree a is) needed)

    use_needed : (i : ℕ) (u : LockUse) → Contains mine.uses u → (b : Bool) → u.alone ≡ b → Contains (needs_at root b (state_at states u.lock)) i
        → (at : Place) × Holds assigned (n + 1) at × IsNeededAt tree assigned n i at
    use_needed i u listed true alone has = (
      lock u.lock,
      (u, listed, refl, alone),
      needed_of tree assigned n (lock u.lock) (opened_at root (state_at states u.lock))
          (max (state_at states u.lock).alone root) i (at_lock u.lock) has,
    )
    use_needed i u listed false shared has = (
      below u.lock (n + 1),
      (refl, (u, listed, refl, shared)),
      needed_of tree assigned n (below u.lock (n + 1)) []
          (max (state_at states u.lock).alone root) i (at_below u.lock (n + 1) (omega arith)) has,
    )

    locks_needed : (i : ℕ) → Contains (needs_by root states mine.uses) i → (at : Place) × Holds assigned (n + 1) at × IsNeededAt tree assigned n i at
    locks_needed i has =
        let there = from_flat (λ (u : LockUse). needs_at root u.alone (state_at states u.lock)) mine.uses i has in
        use_needed i there.0 there.1 there.0.alone refl there.2

    abbrev gathered_used : List ℕ
    gathered_used = needs_by root states mine.uses ++ needs_in spans opened latest mine.affinity

    pub used_needed : (i : ℕ) → Contains gathered_used i → (at : Place) × Holds assigned (n + 1) at × IsNeededAt tree assigned n i at
    used_needed i has = elim (Contains-append_cases (needs_by root states mine.uses) (needs_in spans opened latest mine.affinity) i has) [
      | inl locks ↦ locks_needed i locks
      | inr there ↦ tree_needed i mine.affinity refl there
    ]

    listed_use : (i : ℕ) (u : LockUse) → Contains mine.uses u → (b : Bool) → u.alone ≡ b → Contains (needs_at root b (state_at states u.lock)) i
        → Contains gathered_used i
    listed_use i u listed b is has =
        Contains-append_left (needs_by root states mine.uses) (needs_in spans opened latest mine.affinity) i
        (in_flat (λ (v : LockUse). needs_at root v.alone (state_at states v.lock)) mine.uses u i listed
        (subst (λ x. Contains (needs_at root x (state_at states u.lock)) i) (sym is) has))

    pub needed_used : (i : ℕ) (at : Place) → Holds assigned (n + 1) at → IsNeededAt tree assigned n i at → Contains gathered_used i
    needed_used i (affinity a) is needed =
        Contains-append_right (needs_by root states mine.uses) (needs_in spans opened latest mine.affinity) i (needed_tree i a needed mine.affinity is is)
    needed_used i (lock l) (u, listed, is, alone) needed =
        listed_use i u listed true alone (subst (λ x. Contains (needs_at root true (state_at states x)) i) (sym is)
        (chosen_of tree assigned n (lock l) (opened_at root (state_at states l)) (max (state_at states l).alone root) i (at_lock l) needed))
    needed_used i (below l m) (mine_is, (u, listed, is, shared)) needed =
        listed_use i u listed false shared (subst (λ x. Contains (needs_at root false (state_at states x)) i) (sym is)
        (chosen_of tree assigned n (below l m) [] (max (state_at states l).alone root) i (at_below l m (omega (arith, mine_is))) needed))

    pub chosen_used : (list : List ℕ) → AreGathered gathered_used list → IsChosen tree assigned n list
    chosen_used list gathers = record {
      each = λ i. (
        λ has. used_needed i ((gathers.each i).0 has),
        λ there. (gathers.each i).1 (needed_used i there.0 there.1 there.2),
      );
      rising = gathers.rising;
    }

    pub count_used : (list : List ℕ) → AreGathered gathered_used list
        → length list + held (opened_after spans opened (n + 1) mine.affinity) + opened_count root (note_uses (n + 1) states mine.uses)
        ≤ held opened + opened_count root states + 2 * count_held mine
    count_used list gathers =
        let locks = count_uses root (n + 1) states mine.uses within.rising in
        let there = count_tree spans opened latest (n + 1) mine.affinity in
        let whole = length-append (needs_by root states mine.uses) (needs_in spans opened latest mine.affinity) in
        omega (arith, gathers.few, locks, there, whole)

  -- a message in the root
  module _ (in_root : mine.affinity ≡ Some 0) where
    abbrev first : ℕ
    first = (span_at spans 0).first

    abbrev end : ℕ
    end = (span_at spans 0).end

    abbrev pub all_open : List ℕ
    all_open = flat_map (opened_at root) states ++ messages_in opened first end

    root_of_tree : (i b : ℕ) → IsOpen tree assigned n i (affinity b) → AtOrAbove tree 0 b
    root_of_tree i b h = let to : i ≤ n = h.to in root_over tree is_tree assigned i (held_known tree assigned i known h.from (omega arith)) (affinity b) h.held

    lock_open : (l i : ℕ) → Contains (opened_at root (state_at states l)) i → IsOpenBelow tree assigned n i (affinity 0)
    lock_open l i has =
        let there = opened_open tree is_tree assigned known n few root rooted l (state_at states l) (taken l) i has in
        (there.0, over_transitive tree is_tree (affinity 0) (lock l) there.0 refl there.1, there.2)

    open_lock : (l i : ℕ) → IsOpenBelow tree assigned n i (lock l) → Contains (opened_at root (state_at states l)) i
    open_lock l i is = open_opened tree is_tree assigned known n few root rooted l (state_at states l) (taken l) i is

    tree_open : (i : ℕ) → Contains (messages_in opened first end) i → IsOpenBelow tree assigned n i (affinity 0)
    tree_open i has = let there = (taken_tree tree spans nested assigned known n opened few are_held 0 is_tree.filled i).0 has in (affinity there.0, there.1, there.2)

    open_tree : (i b : ℕ) → IsOpen tree assigned n i (affinity b) → Contains (messages_in opened first end) i
    open_tree i b h = (taken_tree tree spans nested assigned known n opened few are_held 0 is_tree.filled i).1 (b, root_of_tree i b h, h)

    open_all : (i : ℕ) → IsOpenBelow tree assigned n i (affinity 0) → Contains all_open i
    open_all i (affinity b, over, h) = Contains-append_right (flat_map (opened_at root) states) (messages_in opened first end) i (open_tree i b h)
    open_all i (lock l, over, h) =
        Contains-append_left (flat_map (opened_at root) states) (messages_in opened first end) i (opened_all root l i states (open_lock l i (lock l, refl, h)))
    open_all i (below l m, over, h) =
        Contains-append_left (flat_map (opened_at root) states) (messages_in opened first end) i (opened_all root l i states (open_lock l i (below l m, refl, h)))

    pub found_root : IsFound tree assigned n (affinity 0) all_open root
    found_root = record {
      opens = λ i. (
        λ has. elim (Contains-append_cases (flat_map (opened_at root) states) (messages_in opened first end) i has) [
          | inl locks ↦ let there = all_opened root i states locks in lock_open there.0 i there.1
          | inr there ↦ tree_open i there
        ],
        open_all i,
      );
      noted = rooted;
    }

    abbrev gathered_all : List ℕ
    gathered_all = opened_by root states touched ++ needs_in spans opened latest (Some 0)

    -- what is needed anywhere is open
    needed_open : (i : ℕ) (at : Place) → IsNeededAt tree assigned n i at → IsOpenBelow tree assigned n i (affinity 0)
    needed_open i at needed = elim needed [
      | inl (r, over, h) ↦
          let to : i ≤ n = h.to in
          (r, root_over tree is_tree assigned i (held_known tree assigned i known h.from (omega arith)) r h.held, h)
      | inr (none, is) ↦
          let to : i ≤ n = is.to in (
            is.over.0,
            root_over tree is_tree assigned i (held_known tree assigned i known is.from (omega arith)) is.over.0 is.over.1,
            latest_open tree assigned n is_tree i at is,
          )
    ]

    all_needed : (i : ℕ) → Contains gathered_all i → IsOpenBelow tree assigned n i (affinity 0)
    all_needed i has = elim (Contains-append_cases (opened_by root states touched) (needs_in spans opened latest (Some 0)) i has) [
      | inl locks ↦ let there = from_flat (λ l. opened_at root (state_at states l)) touched i locks in lock_open there.0 i there.2
      | inr there ↦ elim (chosen_cases (messages_in opened first end) root i there) [
        | inl listed ↦ tree_open i listed
        | inr (some, is) ↦ subst (λ x. IsOpenBelow tree assigned n x (affinity 0)) (sym is)
            (let late = rooted.some some in
            let to : root ≤ n = late.to in (
              late.over.0,
              root_over tree is_tree assigned root (held_known tree assigned root known late.from (omega arith)) late.over.0 late.over.1,
              latest_open tree assigned n is_tree root (affinity 0) late,
            ))
      ]
    ]

    lock_listed : (l i : ℕ) → Contains (opened_at root (state_at states l)) i → Contains gathered_all i
    lock_listed l i has =
        Contains-append_left (opened_by root states touched) (needs_in spans opened latest (Some 0)) i
        (in_flat (λ l. opened_at root (state_at states l)) touched l i (touches l i has) has)

    needed_all : (i : ℕ) → IsOpenBelow tree assigned n i (affinity 0) → Contains gathered_all i
    needed_all i (affinity b, over, h) =
        Contains-append_right (opened_by root states touched) (needs_in spans opened latest (Some 0)) i
        (chosen_taken (messages_in opened first end) root i (open_tree i b h))
    needed_all i (lock l, over, h) = lock_listed l i (open_lock l i (lock l, refl, h))
    needed_all i (below l m, over, h) = lock_listed l i (open_lock l i (below l m, refl, h))

    pub chosen_root : (list : List ℕ) → AreGathered gathered_all list → IsChosen tree assigned n list
    chosen_root list gathers = record {
      each = λ i. (
        λ has. (affinity 0, in_root, inl (all_needed i ((gathers.each i).0 has))),
        λ there. (gathers.each i).1 (needed_all i (needed_open i there.0 there.2)),
      );
      rising = gathers.rising;
    }

    -- after it nothing before is open
    pub closed_locks : (l i : ℕ) → Contains (opened_at (n + 1) (state_at states l)) i → ⊥
    closed_locks l i has =
        let early : i ≤ n = opened_within tree is_tree assigned known n few root rooted l (state_at states l) (taken l) (n + 1) i has in
        let late : n + 1 ≤ i = (opened_cases (n + 1) i (state_at states l) has).0 in
        omega arith

    pub count_root : (list : List ℕ) → AreGathered gathered_all list
        → length list + held (opened_after spans opened (n + 1) (Some 0)) + opened_count (n + 1) (note_uses (n + 1) states mine.uses)
        ≤ held opened + opened_count root states + 1 + length mine.uses
    count_root list gathers =
        let fewer = rising_few list all_open gathers.rising (λ i has. open_all i (all_needed i ((gathers.each i).0 has))) in
        let whole = length-append (flat_map (opened_at root) states) (messages_in opened first end) in
        let locks = length-flat_map (opened_at root) states in
        let put = held-put (map_in (λ x. 0) opened first end) first (n + 1) in
        let left = held-taken opened first end in
        let none = count_none (n + 1) states closed_locks in
        let noted = count_noted (n + 1) (n + 1) states mine.uses in
        omega (arith, fewer, whole, locks, put, left, none, noted)

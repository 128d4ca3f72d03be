-- Who took each lock: which messages are open at it, and the latest over it.
use Rattle.std.proofs.Common.{◌≡◌, ◌≢◌, ℕ, zero, suc, ◌+◌, ◌<◌, ◌≤◌, ◌⊎◌, max, inl, inr, List, [], ◌∷◌, length, slice_get, Contains, Some, Bool, true, false, arith, refl, sym, ◌∙◌, ap, subst}
use Rattle.std.proofs.lemmas.Bool.{cases_eq, cases_lt, cases_order, false≢true}
use Rattle.std.proofs.lemmas.List.Elements.{Contains-append_cases, Contains-append_left, Contains-append_right}
use Rattle.std.proofs.lemmas.Option.{slice_get-get_or}
use Rattle.waff_model.specs.Tree.{Node, AtOrAbove, IsTree}
use Rattle.waff_model.proofs.Members.{in_none, in_first, in_rest, in_cases}
use Rattle.waff_assign.specs.Held.{AreKnown, Held, IsHeldWithin, IsRising, UsesAlone, UsesLock, UsesShared}
use Rattle.waff_assign.specs.Order.{affinity_of, held_of}
use Rattle.waff_assign.specs.declared.held.LockUse.{LockUse}
use Rattle.waff_assign.proofs.Holding.{held_known, uses_alone_uses, uses_shared_uses}
use Rattle.waff_order.specs.Open.{Holds, HoldsOver, IsOpen, IsOpenBelow, IsOver, Place, affinity, below, lock}
use Rattle.waff_order.specs.Joined.{IsFalling, IsNoted, IsTaken}
use Rattle.waff_order.specs.Takers.{LockState, alone_since, note_use, note_uses, noted, opened_at, since, state_at}
use Rattle.waff_order.proofs.Closure.{IsFound}
use Rattle.waff_order.proofs.Places.{over_transitive, root_over}
use Rattle.waff_order.proofs.TakerLemmas.{alone_more, alone_none, noted_alone, noted_shared, since_more, since_none, state_other, state_used}

-- what is open, by the numbers
pub alone_cases : (root m i : ℕ) → Contains (alone_since root m) i → (i ≡ m) × (0 < m) × (root ≤ m)
alone_cases root zero i has = absurd (in_none i has)
alone_cases root (suc m) i has = elim (cases_lt (suc m) root) [
  | inl early ↦ absurd (in_none i (subst (λ xs. Contains xs i) (alone_none root (suc m) (inr early)) has))
  | inr late ↦ elim (in_cases (suc m) [] i (subst (λ xs. Contains xs i) (alone_more root (suc m) (omega arith) late) has)) [
    | inl same ↦ (sym same, omega arith, late)
    | inr none ↦ absurd (in_none i none)
  ]
]

pub since_cases : (root : ℕ) (sharers : List ℕ) (i : ℕ) → Contains (since root sharers) i → Contains sharers i × (root ≤ i)
since_cases root [] i has = absurd (in_none i has)
since_cases root (m ∷ rest) i has = elim (cases_lt m root) [
  | inl early ↦ absurd (in_none i (subst (λ xs. Contains xs i) (since_none root m rest early) has))
  | inr late ↦ elim (in_cases m (since root rest) i (subst (λ xs. Contains xs i) (since_more root m rest late) has)) [
    | inl same ↦ (subst (λ x. Contains (m ∷ rest) x) same (in_first m rest), subst (λ x. root ≤ x) same late)
    | inr later ↦ let there = since_cases root rest i later in (in_rest m rest i there.0, there.1)
  ]
]

pub since_from : (root : ℕ) (sharers : List ℕ) (i : ℕ) → IsFalling sharers → Contains sharers i → root ≤ i → Contains (since root sharers) i
since_from root [] i falls has late = absurd (in_none i has)
since_from root (m ∷ rest) i falls has late = elim (in_cases m rest i has) [
  | inl same ↦ rw (since_more root m rest (omega (arith, same))) (subst (λ x. Contains (m ∷ since root rest) x) same (in_first m (since root rest)))
  | inr later ↦
      let below_first : i < m = falls.0 i later in
      rw (since_more root m rest (omega arith)) (in_rest m (since root rest) i (since_from root rest i falls.1 later late))
]

pub opened_cases : (root i : ℕ) (s : LockState) → Contains (opened_at root s) i
    → (root ≤ i) × (((i ≡ s.alone) × (0 < s.alone)) ⊎ Contains s.sharers i)
opened_cases root i s has = elim (Contains-append_cases (alone_since root s.alone) (since root s.sharers) i has) [
  | inl first ↦ let there = alone_cases root s.alone i first in (subst (λ x. root ≤ x) (sym there.0) there.2, inl (there.0, there.1))
  | inr second ↦ let there = since_cases root s.sharers i second in (there.1, inr there.0)
]

-- a lock is used once
pub use_once : (held : Held) → IsRising held.uses → (u v : LockUse) → Contains held.uses u → Contains held.uses v → u.lock ≡ v.lock → u ≡ v
use_once held rising u v (k, k_in, k_is) (j, j_in, j_is) same =
    let at_u : slice_get held.uses k ≡ Some u = slice_get-get_or held.uses k u k_in ∙ ap Some k_is in
    let at_v : slice_get held.uses j ≡ Some v = slice_get-get_or held.uses j v j_in ∙ ap Some j_is in
    elim (cases_order k j) [
      | inl equal ↦
          let both : Some u ≡ Some v = sym at_u ∙ ap (λ x. slice_get held.uses x) equal ∙ at_v in
          cc
      | inr (inl less) ↦ let rises : u.lock < v.lock = rising k j u v less at_u at_v in absurd (omega arith)
      | inr (inr more) ↦ let rises : v.lock < u.lock = rising j k v u more at_v at_u in absurd (omega arith)
    ]

pub not_both : (held : Held) (l : ℕ) → IsRising held.uses → UsesAlone held l → UsesShared held l → ⊥
not_both held l rising (u, u_in, u_is, alone) (v, v_in, v_is, shared) =
    let same : u ≡ v = use_once held rising u v u_in v_in (u_is ∙ sym v_is) in
    let both : false ≡ true = sym shared ∙ ap (λ (x : LockUse). x.alone) (sym same) ∙ alone in
    false≢true both

module _ (tree : List Node) (is_tree : IsTree tree) (assigned : List Held) (known : AreKnown tree assigned) (n : ℕ) (few : n ≤ length assigned)
    (root : ℕ) (rooted : IsNoted tree assigned n (affinity 0) root) (l : ℕ) (s : LockState) (taken : IsTaken assigned n l s) where
  known_at : (i : ℕ) → 1 ≤ i → i ≤ n → IsHeldWithin (length tree) (held_of assigned i)
  known_at i from to = held_known tree assigned i known from (omega arith)

  -- what is open came since the root was taken
  open_late : (i : ℕ) (p : Place) → IsOpen tree assigned n i p → root ≤ i
  open_late i p h = elim (cases_lt i root) [
    | inr late ↦ late
    | inl early ↦
        let there = rooted.some (omega arith) in
        let high : IsOver tree there.over.0 p = over_transitive tree is_tree there.over.0 (affinity 0) p there.over.2
        (root_over tree is_tree assigned i (known_at i h.from h.to) p h.held) in
        absurd (h.free root early there.to (there.over.0, there.over.1, high))
  ]

  -- a later message in the root
  not_root : (i j : ℕ) (a : ℕ) → root ≤ i → i < j → j ≤ n → 1 ≤ j → affinity_of assigned j ≡ Some a → a ≡ 0 → ⊥
  not_root i j a late after before from holds is =
      let in_root : affinity_of assigned j ≡ Some 0 = holds ∙ ap Some is in
      let early : j ≤ root = rooted.latest j before from (affinity 0, in_root, (0, refl)) in
      omega arith

  open_alone : (i : ℕ) → i ≡ s.alone → 0 < s.alone → root ≤ i → IsOpen tree assigned n i (lock l)
  open_alone i is some late =
      let there = taken.alone some in
      let to : s.alone ≤ n = there.0 in
      record {
        from = omega arith;
        to = omega arith;
        held = subst (λ x. UsesAlone (held_of assigned x) l) (sym is) there.1;
        free = λ j after before over. not_over j after before over;
      }
    where
      not_over : (j : ℕ) → i < j → j ≤ n → HoldsOver tree assigned j (lock l) → ⊥
      not_over j after before (affinity a, holds, over) = not_root i j a late after before (omega arith) holds over
      not_over j after before (lock k, holds, over) =
          let early : j ≤ s.alone = taken.latest j (omega arith) before (subst (λ x. UsesAlone (held_of assigned j) x) over holds) in
          omega arith
      not_over j after before (below k m, holds, over) = over

  open_shared : (i : ℕ) → Contains s.sharers i → root ≤ i → IsOpen tree assigned n i (below l i)
  open_shared i has late =
      let there = taken.sharers i has in
      record {
        from = there.0;
        to = there.1;
        held = (refl, there.2);
        free = λ j after before over. not_over there.3 j after before over;
      }
    where
      not_over : s.alone < i → (j : ℕ) → i < j → j ≤ n → HoldsOver tree assigned j (below l i) → ⊥
      not_over since_alone j after before (affinity a, holds, over) = not_root i j a late after before (omega arith) holds over
      not_over since_alone j after before (lock k, holds, over) =
          let early : j ≤ s.alone = taken.latest j (omega arith) before (subst (λ x. UsesAlone (held_of assigned j) x) over holds) in
          omega arith
      not_over since_alone j after before (below k m, holds, over) =
          let same : j ≡ i = holds.0 ∙ over.1 in
          omega arith

  pub opened_open : (i : ℕ) → Contains (opened_at root s) i → IsOpenBelow tree assigned n i (lock l)
  opened_open i has =
      let there = opened_cases root i s has in
      elim there.1 [
        | inl alone ↦ (lock l, refl, open_alone i alone.0 alone.1 there.0)
        | inr shares ↦ (below l i, refl, open_shared i shares there.0)
      ]

  pub open_opened : (i : ℕ) → IsOpenBelow tree assigned n i (lock l) → Contains (opened_at root s) i
  open_opened i (affinity a, over, h) = absurd over
  open_opened i (lock k, over, h) =
      let late = open_late i (lock k) h in
      let from : 1 ≤ i = h.from in
      let holds : UsesAlone (held_of assigned i) l = subst (λ x. UsesAlone (held_of assigned i) x) (sym over) h.held in
      let early : i ≤ s.alone = taken.latest i from h.to holds in
      elim (cases_lt i s.alone) [
        | inl less ↦
            let there = taken.alone (omega arith) in
            absurd (h.free s.alone less there.0 (lock l, there.1, over))
        | inr not_less ↦
            let same : s.alone ≡ i = omega arith in
            Contains-append_left (alone_since root s.alone) (since root s.sharers) i
            (rw (alone_more root s.alone (omega arith) (omega arith)) (subst (λ x. Contains (s.alone ∷ []) x) same (in_first s.alone [])))
      ]
  open_opened i (below k m, over, h) =
      let late = open_late i (below k m) h in
      let from : 1 ≤ i = h.from in
      let to : i ≤ n = h.to in
      let shares : UsesShared (held_of assigned i) l = subst (λ x. UsesShared (held_of assigned i) x) (sym over) h.held.1 in
      let later : s.alone < i = elim (cases_order s.alone i) [
        | inl same ↦
            let there = taken.alone (omega arith) in
            absurd (not_both (held_of assigned i) l (known_at i from to).rising (subst (λ x. UsesAlone (held_of assigned x) l) same there.1) shares)
        | inr (inl less) ↦ less
        | inr (inr more) ↦
            let there = taken.alone (omega arith) in
            absurd (h.free s.alone more there.0 (lock l, there.1, over))
      ] in
      Contains-append_right (alone_since root s.alone) (since root s.sharers) i
      (since_from root s.sharers i taken.falling (taken.each i from to shares later) late)

  -- the latest message over the lock
  over_lock : (j : ℕ) → j ≤ n → 1 ≤ j → HoldsOver tree assigned j (lock l) → j ≤ max s.alone root
  over_lock j to from (affinity a, holds, over) =
      let early : j ≤ root = rooted.latest j to from (affinity a, holds, subst (λ x. AtOrAbove tree x 0) (sym over) (0, refl)) in
      omega arith
  over_lock j to from (lock k, holds, over) =
      let early : j ≤ s.alone = taken.latest j from to (subst (λ x. UsesAlone (held_of assigned j) x) over holds) in
      omega arith
  over_lock j to from (below k m, holds, over) = absurd over

  -- it is over all places at or below the lock
  latest_over : (at : Place) → IsOver tree (lock l) at → 0 < max s.alone root
      → (max s.alone root ≤ n) × (1 ≤ max s.alone root) × HoldsOver tree assigned (max s.alone root) at
  latest_over at over some = elim (cases_lt s.alone root) [
    | inl less ↦
        let there = rooted.some (omega arith) in
        let is : root ≡ max s.alone root = omega arith in
        let to : root ≤ n = there.to in
        let high : IsOver tree there.over.0 at = over_transitive tree is_tree there.over.0 (affinity 0) at there.over.2
        (over_transitive tree is_tree (affinity 0) (lock l) at refl over) in
        (omega arith, some, subst (λ x. HoldsOver tree assigned x at) is (there.over.0, there.over.1, high))
    | inr not_less ↦
        let there = taken.alone (omega arith) in
        let is : s.alone ≡ max s.alone root = omega arith in
        let to : s.alone ≤ n = there.0 in
        (omega arith, some, subst (λ x. HoldsOver tree assigned x at) is (lock l, there.1, over))
  ]

  pub noted_lock : IsNoted tree assigned n (lock l) (max s.alone root)
  noted_lock = record {
    some = λ some. let there = latest_over (lock l) refl some in record { from = there.1; to = there.0; over = there.2; latest = over_lock };
    latest = over_lock;
  }

  pub found_lock : IsFound tree assigned n (lock l) (opened_at root s) (max s.alone root)
  found_lock = record { opens = λ i. (opened_open i, open_opened i); noted = noted_lock }

  over_below : (m j : ℕ) → j ≤ n → 1 ≤ j → HoldsOver tree assigned j (below l m) → (j ≤ max s.alone root) ⊎ (j ≡ m)
  over_below m j to from (affinity a, holds, over) = inl (over_lock j to from (affinity a, holds, over))
  over_below m j to from (lock k, holds, over) = inl (over_lock j to from (lock k, holds, over))
  over_below m j to from (below k i, holds, over) = inr (holds.0 ∙ over.1)

  -- the latest over the place of one that shares the lock
  pub noted_below : (m : ℕ) → n < m → IsNoted tree assigned n (below l m) (max s.alone root)
  noted_below m later =
      let latest : (j : ℕ) → j ≤ n → 1 ≤ j → HoldsOver tree assigned j (below l m) → j ≤ max s.alone root = λ j to from over.
      elim (over_below m j to from over) [ inl early ↦ early | inr same ↦ omega arith ] in
      record {
        some = λ some. let there = latest_over (below l m) refl some in record { from = there.1; to = there.0; over = there.2; latest = latest };
        latest = latest;
      }

  pub noted_mine : (m : ℕ) → 1 ≤ m → m ≤ n → UsesShared (held_of assigned m) l → (v : ℕ) × IsNoted tree assigned n (below l m) v
  noted_mine m from to shares = elim (cases_lt m (max s.alone root)) [
    | inl less ↦
        let latest : (j : ℕ) → j ≤ n → 1 ≤ j → HoldsOver tree assigned j (below l m) → j ≤ max s.alone root = λ j upto after over.
        elim (over_below m j upto after over) [ inl early ↦ early | inr same ↦ omega arith ] in (
          max s.alone root,
          record {
            some = λ some. let there = latest_over (below l m) refl some in record { from = there.1; to = there.0; over = there.2; latest = latest };
            latest = latest;
          },
        )
    | inr not_less ↦
        let latest : (j : ℕ) → j ≤ n → 1 ≤ j → HoldsOver tree assigned j (below l m) → j ≤ m = λ j upto after over.
        elim (over_below m j upto after over) [ inl early ↦ omega arith | inr same ↦ omega arith ] in (
          m,
          record {
            some = λ some. record { from = from; to = to; over = (below l m, (refl, shares), (refl, refl)); latest = latest };
            latest = latest;
          },
        )
  ]

  pub found_below : (m : ℕ) → n < m → IsFound tree assigned n (below l m) [] (max s.alone root)
  found_below m later = record {
    opens = λ i. (λ has. absurd (in_none i has), λ there. absurd (none i there));
    noted = noted_below m later;
  }
    where
      none : (i : ℕ) → IsOpenBelow tree assigned n i (below l m) → ⊥
      none i (affinity a, over, h) = over
      none i (lock k, over, h) = over
      none i (below k j, over, h) =
          let same : i ≡ m = h.held.0 ∙ sym over.1 in
          let to : i ≤ n = h.to in
          omega arith

  -- all that is open is among the first messages
  pub opened_within : (r i : ℕ) → Contains (opened_at r s) i → i ≤ n
  opened_within r i has = elim (opened_cases r i s has).1 [
    | inl alone ↦ let there = taken.alone alone.1 in let to : s.alone ≤ n = there.0 in let is : i ≡ s.alone = alone.0 in omega arith
    | inr shares ↦ (taken.sharers i shares).1
  ]

  -- one message more
  module _ (room : n + 1 ≤ length assigned) where
    rises : IsRising (held_of assigned (n + 1)).uses
    rises = (held_known tree assigned (n + 1) known (omega arith) room).rising

    alone_few : s.alone ≤ n
    alone_few = elim (cases_lt 0 s.alone) [ inl some ↦ (taken.alone some).0 | inr none ↦ omega arith ]

    earlier_use : (Uses : Held → ℕ → Type 0) → ¬ Uses (held_of assigned (n + 1)) l → (j : ℕ) → j ≤ n + 1 → Uses (held_of assigned j) l → j ≤ n
    earlier_use Uses apart j to uses = elim (cases_eq j (n + 1)) [
      | inl last ↦ absurd (apart (subst (λ x. Uses (held_of assigned x) l) last uses))
      | inr other ↦ omega arith
    ]

    pub taken_other : ¬ UsesLock (held_of assigned (n + 1)) l → IsTaken assigned (n + 1) l s
    taken_other apart = record {
      alone = λ some. let there = taken.alone some in let to : s.alone ≤ n = there.0 in (omega arith, there.1);
      latest = λ j from to uses. taken.latest j from (earlier_use UsesAlone (λ mine. apart (uses_alone_uses (held_of assigned (n + 1)) l mine)) j to uses) uses;
      sharers = λ i has. let there = taken.sharers i has in let to : i ≤ n = there.1 in (there.0, omega arith, there.2, there.3);
      each = λ i from to shares later. taken.each i from (earlier_use UsesShared (λ mine. apart (uses_shared_uses (held_of assigned (n + 1)) l mine)) i to shares) shares later;
      falling = taken.falling;
    }

    pub taken_alone : UsesAlone (held_of assigned (n + 1)) l → IsTaken assigned (n + 1) l (record { alone = n + 1; sharers = [] })
    taken_alone uses = record {
      alone = λ some. (omega arith, uses);
      latest = λ j from to other. to;
      sharers = λ i has. absurd (in_none i has);
      each = λ i from to shares later. absurd (omega arith);
      falling = tt;
    }

    pub taken_shared : UsesShared (held_of assigned (n + 1)) l → IsTaken assigned (n + 1) l (record { alone = s.alone; sharers = (n + 1) ∷ s.sharers })
    taken_shared shares = record {
      alone = λ some. let there = taken.alone some in let to : s.alone ≤ n = there.0 in (omega arith, there.1);
      latest = λ j from to uses. taken.latest j from (earlier_use UsesAlone (λ mine. not_both (held_of assigned (n + 1)) l rises mine shares) j to uses) uses;
      sharers = λ i has. elim (in_cases (n + 1) s.sharers i has) [
        | inl same ↦
            let low : s.alone ≤ n = alone_few in
            (omega (arith, same), omega (arith, same), subst (λ x. UsesShared (held_of assigned x) l) same shares, omega (arith, same))
        | inr old ↦ let there = taken.sharers i old in let to : i ≤ n = there.1 in (there.0, omega arith, there.2, there.3)
      ];
      each = λ i from to uses later. elim (cases_eq i (n + 1)) [
        | inl last ↦ subst (λ x. Contains ((n + 1) ∷ s.sharers) x) (sym last) (in_first (n + 1) s.sharers)
        | inr other ↦ in_rest (n + 1) s.sharers i (taken.each i from (omega arith) uses later)
      ];
      falling = (λ j has. let there = taken.sharers j has in let to : j ≤ n = there.1 in omega arith, taken.falling);
    }

-- the first messages took no lock
pub taken_none : (l : ℕ) → IsTaken [] 0 l (record { alone = 0; sharers = [] })
taken_none l = record {
  alone = λ some. absurd (omega arith);
  latest = λ j from to uses. absurd (omega arith);
  sharers = λ i has. absurd (in_none i has);
  each = λ i from to shares later. absurd (omega arith);
  falling = tt;
}

-- who took a lock after a message's uses, each of which is of another lock
pub rising_rest : (u : LockUse) (uses : List LockUse) → IsRising (u ∷ uses) → IsRising uses
rising_rest u uses rising p q x y less at_p at_q = rising (suc p) (suc q) x y (omega arith) at_p at_q

pub rising_first : (u v : LockUse) (uses : List LockUse) → IsRising (u ∷ uses) → Contains uses v → u.lock < v.lock
rising_first u v uses rising (k, within, is) = rising zero (suc k) u v (omega arith) refl (slice_get-get_or uses k v within ∙ ap Some is)

pub note_uses_other : (m l : ℕ) (uses : List LockUse) (states : List LockState) → ((u : LockUse) → Contains uses u → u.lock ≢ l)
    → state_at (note_uses m states uses) l ≡ state_at states l
note_uses_other m l [] states apart = refl
note_uses_other m l (u ∷ uses) states apart =
    note_uses_other m l uses (note_use m states u) (λ v has. apart v (in_rest u uses v has))
    ∙ state_other m states u l (λ same. apart u (in_first u uses) (sym same))

pub note_uses_here : (m : ℕ) (uses : List LockUse) (states : List LockState) (u : LockUse) → IsRising uses → Contains uses u
    → state_at (note_uses m states uses) u.lock ≡ noted m u.alone (state_at states u.lock)
note_uses_here m [] states u rising has = absurd (in_none u has)
note_uses_here m (x ∷ uses) states u rising has = elim (in_cases x uses u has) [
  | inl same ↦
      subst (λ (v : LockUse). state_at (note_uses m (note_use m states x) uses) v.lock ≡ noted m v.alone (state_at states v.lock)) same
      (note_uses_other m x.lock uses (note_use m states x) (λ v later equal. let less = rising_first x v uses rising later in omega arith)
      ∙ state_used m states x)
  | inr later ↦
      let less : x.lock < u.lock = rising_first x u uses rising later in
      note_uses_here m uses (note_use m states x) u (rising_rest x uses rising) later
      ∙ ap (λ s. noted m u.alone s) (state_other m states x u.lock (λ same. omega arith))
]

-- whether a lock is used
pub find_use : (uses : List LockUse) (l : ℕ) → ((u : LockUse) × Contains uses u × (u.lock ≡ l)) ⊎ ((u : LockUse) → Contains uses u → u.lock ≢ l)
find_use [] l = inr (λ u has. absurd (in_none u has))
find_use (x ∷ uses) l = elim (cases_eq x.lock l) [
  | inl same ↦ inl (x, in_first x uses, same)
  | inr other ↦ elim (find_use uses l) [
    | inl there ↦ inl (there.0, in_rest x uses there.0 there.1, there.2)
    | inr none ↦ inr (λ u has same. elim (in_cases x uses u has) [
      | inl first ↦ other (ap (λ (v : LockUse). v.lock) first ∙ same)
      | inr later ↦ none u later same
    ])
  ]
]

module _ (tree : List Node) (is_tree : IsTree tree) (assigned : List Held) (known : AreKnown tree assigned) (n : ℕ) (room : n + 1 ≤ length assigned)
    (root : ℕ) (rooted : IsNoted tree assigned n (affinity 0) root) (states : List LockState)
    (taken : (l : ℕ) → IsTaken assigned n l (state_at states l)) where
  few : n ≤ length assigned
  few = omega arith

  -- after message n + 1
  pub taken_more : (l : ℕ) → IsTaken assigned (n + 1) l (state_at (note_uses (n + 1) states (held_of assigned (n + 1)).uses) l)
  taken_more l =
      let uses = (held_of assigned (n + 1)).uses in
      let rising = (held_known tree assigned (n + 1) known (omega arith) room).rising in
      elim (find_use uses l) [
        | inr none ↦
            rw (note_uses_other (n + 1) l uses states none)
            (taken_other tree is_tree assigned known n few root rooted l (state_at states l) (taken l) room (λ mine. none mine.0 mine.1 mine.2))
        | inl (u, has, is) ↦
            subst (λ x. IsTaken assigned (n + 1) x (state_at (note_uses (n + 1) states uses) x)) is
            (subst (IsTaken assigned (n + 1) u.lock) (sym (note_uses_here (n + 1) uses states u rising has)) (by u has u.alone refl))
      ]
    where
      by : (u : LockUse) → Contains (held_of assigned (n + 1)).uses u → (b : Bool) → u.alone ≡ b
          → IsTaken assigned (n + 1) u.lock (noted (n + 1) u.alone (state_at states u.lock))
      by u has true alone =
          subst (IsTaken assigned (n + 1) u.lock) (sym (noted_alone (n + 1) u.alone (state_at states u.lock) alone))
          (taken_alone tree is_tree assigned known n few root rooted u.lock (state_at states u.lock) (taken u.lock) room (u, has, refl, alone))
      by u has false shared =
          subst (IsTaken assigned (n + 1) u.lock) (sym (noted_shared (n + 1) u.alone (state_at states u.lock) shared))
          (taken_shared tree is_tree assigned known n few root rooted u.lock (state_at states u.lock) (taken u.lock) room (u, has, refl, shared))

  -- each place that one of the first messages holds has a latest over it
  pub noted_place : (latest : (a : ℕ) → a < length tree → (v : ℕ) × IsNoted tree assigned n (affinity a) v)
      → (i : ℕ) (p : Place) → 1 ≤ i → i ≤ n → Holds assigned i p → (v : ℕ) × IsNoted tree assigned n p v
  noted_place latest i (affinity a) from to holds = latest a ((held_known tree assigned i known from (omega arith)).affinity a holds)
  noted_place latest i (lock l) from to holds =
      (max (state_at states l).alone root, noted_lock tree is_tree assigned known n few root rooted l (state_at states l) (taken l))
  noted_place latest i (below l m) from to holds =
      noted_mine tree is_tree assigned known n few root rooted l (state_at states l) (taken l) m (omega (arith, holds.0)) (omega (arith, holds.0))
      (subst (λ x. UsesShared (held_of assigned x) l) holds.0 holds.1)

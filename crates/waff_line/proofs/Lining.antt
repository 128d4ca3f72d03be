-- The order of service is kept by each event of a run, and needs that have ended are enough.
use Rattle.std.proofs.Common.{◌≡◌, ℕ, zero, suc, cond, ◌==◌, ◌-◌, ◌<◌, ◌≤◌, ◌⊎◌, inl, inr, List, [], ◌∷◌, ◌++◌, length, map, get_or, Contains, refl, ap, sym, ◌∙◌, subst, arith}
use Rattle.std.specs.List.Sorted.{IsPermutation}
use Rattle.std.proofs.lemmas.Bool.{cases_lt, cases_order}
use Rattle.std.proofs.lemmas.List.{get_or-map, get_or_default, get_or_append_left, get_or_push, length_push, length-map, map_push}
use Rattle.std.proofs.lemmas.List.Elements.{Contains-get_or, Contains-push, Contains-push_cases, Contains-append_left}
use Rattle.std.proofs.lemmas.List.Sorted.{Contains-permutation, IsPermutation-sym, sum_by-IsPermutation}
use Rattle.waff_model.specs.declared.preorder.Span.{Span}
use Rattle.waff_assign.specs.Held.{ExcludeEachOther, nothing}
use Rattle.waff_assign.specs.Order.{held_of, IsOrdered, PathBy}
use Rattle.waff_order.specs.Joined.{Joined, HaveJoined}
use Rattle.waff_order.specs.Needs.{IsNeed}
use Rattle.waff_waits.specs.Times.{times}
use Rattle.waff_plan.specs.Due.{IsDueFirst, LeavesDue}
use Rattle.waff_plan.specs.Order.{ComesBefore, Serves}
use Rattle.waff_plan.specs.Work.{IsAmongFirst}
use Rattle.waff_line.specs.Machine.{Course, State, Turn, HasEnded, IsClear, IsIssued, key_in, measured, turn_of}
use Rattle.waff_line.specs.Lined.{IsKeyed, IsLined, served_at}
use Rattle.waff_line.proofs.Issuing.{comes_same, key_kept}
use Rattle.waff_line.proofs.Sound.{Sound}

-- what is in a longer list is its first element or one of the rest
pub contains_rest_of : {X : Type 0} (x y : X) (xs : List X) → Contains (x ∷ xs) y → Contains xs y ⊎ (y ≡ x)
contains_rest_of x y xs (zero, within, is) = inr (sym is)
contains_rest_of x y xs (suc k, within, is) = inl (k, omega arith, is)

pub contains_more : {X : Type 0} (x y : X) (xs : List X) → Contains xs y → Contains (x ∷ xs) y
contains_more x y xs (k, within, is) = (suc k, omega arith, is)

pub contains_first : {X : Type 0} (x : X) (xs : List X) → Contains (x ∷ xs) x
contains_first x xs = (0, omega arith, refl)

-- a list in another order lists each as often
pub times_moved : (x : ℕ) (xs ys : List ℕ) → IsPermutation xs ys → times x ys ≡ times x xs
times_moved x xs ys moved = sum_by-IsPermutation (λ y. cond (y == x) 1 0) xs ys moved

-- of two messages one comes before the other, or they are one
pub one_first : (key : ℕ → ℕ) (i j : ℕ) → ComesBefore key i j ⊎ ((i ≡ j) ⊎ ComesBefore key j i)
one_first key i j = elim (cases_order (key i) (key j)) [
  | inr (inl less) ↦ inl (inl less)
  | inr (inr more) ↦ inr (inr (inl more))
  | inl same ↦ elim (cases_order i j) [
    | inr (inl less) ↦ inl (inr (same, less))
    | inr (inr more) ↦ inr (inr (inr (sym same, more)))
    | inl is ↦ inr (inl is)
  ]
]

-- no message comes before itself
never_itself : (key : ℕ → ℕ) (i : ℕ) → ComesBefore key i i → ⊥
never_itself key i (inl less) = omega (arith, less)
never_itself key i (inr same) = let less = same.1 in omega (arith, less)

-- what is due first comes before none that is due before it
not_before : (key : ℕ → ℕ) (i j : ℕ) → IsDueFirst (key i, i) (key j, j) → ComesBefore key j i → ⊥
not_before key i j (inl less) (inl more) = omega (arith, less, more)
not_before key i j (inl less) (inr same) = let is = same.0 in omega (arith, less, is)
not_before key i j (inr same) (inl more) = let is = same.0 in omega (arith, is, more)
not_before key i j (inr one) (inr two) = let less = one.1 in let more = two.1 in omega (arith, less, more)

module _ (course : Course) (s : State) (spans : List Span) (joining : Joined) (messages : List ℕ) (waits : List (ℕ × ℕ))
    (h : IsLined course s spans joining messages waits) where
  -- what is held at a place is what its message holds
  pub held_at : (p : ℕ) → 1 ≤ p → p ≤ length messages
      → held_of (map (held_of course.assigned) messages) p ≡ held_of course.assigned (served_at messages p)
  held_at p from to = get_or-map (held_of course.assigned) messages (p - 1) 0 nothing (omega (arith, from, to))

  there : (p : ℕ) → 1 ≤ p → p ≤ length messages → Contains messages (served_at messages p)
  there p from to = Contains-get_or messages (p - 1) 0 (omega (arith, from, to))

  -- where a message that is needed has ended, so have those that come before it and exclude it
  module _ (sound : Sound course s) where
    ended_before : (i k : ℕ) → HasEnded s (served_at messages k) → IsOrdered course.tree (map (held_of course.assigned) messages) i k
        → HasEnded s (served_at messages i)
    ended_before i k ended ordered =
        let long = length-map messages (held_of course.assigned) in
        let first = ordered.from in
        let less = ordered.earlier in
        let last = ordered.to in
        let at_i = there i first (omega (arith, less, last, long)) in
        let at_k = there k (omega (arith, first, less)) (omega (arith, last, long)) in
        elim (one_first (key_in course s) (served_at messages i) (served_at messages k)) [
          | inr (inl same) ↦ subst (HasEnded s) (sym same) ended
          | inr (inr after) ↦ absurd (h.sorted (i - 1) (k - 1) (omega (arith, first, less)) (omega (arith, first, less, last, long)) after)
          | inl before ↦
              let serves : Serves course.tree course.assigned (measured course s) (key_in course s) (served_at messages i) (served_at messages k)
              = record {
                first = (h.each (served_at messages i) at_i).0;
                second = (h.each (served_at messages k) at_k).0;
                precedes = before;
                excludes = subst (λ held. ExcludeEachOther course.tree held (held_of course.assigned (served_at messages k)))
                    (held_at i first (omega (arith, less, last, long)))
                    (subst (λ held. ExcludeEachOther course.tree (held_of (map (held_of course.assigned) messages) i) held)
                    (held_at k (omega (arith, first, less)) (omega (arith, last, long))) ordered.excludes);
              } in
              ((sound.begun (served_at messages k) (sound.ended (served_at messages k) ended).begun).after
              (served_at messages i) (h.each (served_at messages i) at_i).1 serves).0
        ]

    ended_along : (n i j : ℕ) → ((k : ℕ) → IsNeed joining.needs k j → HasEnded s (served_at messages k)) → PathBy (IsNeed joining.needs) n i j
        → HasEnded s (served_at messages i)
    ended_along zero i j done need = done i need
    ended_along (suc n) i j done (k, need, rest) =
        ended_before i k (ended_along n k j done rest) (h.joined.needs.ordered i k need)

    -- a message whose needs have ended is clear
    pub clear_at : (p : ℕ) → IsAmongFirst (length messages) p → ((k : ℕ) → IsNeed joining.needs k p → HasEnded s (served_at messages k))
        → IsClear course s (served_at messages p)
    clear_at p number done i issued served = elim (h.known i served.first issued) [
      | inr waits_on ↦
          absurd (not_before (key_in course s) (served_at messages p) i
          (h.later (served_at messages p) (key_in course s i, i) (there p number.from number.to) waits_on) served.precedes)
      | inl (k, within, is) ↦
          let long = length-map messages (held_of course.assigned) in
          let from = number.from in
          let to = number.to in
          let place : suc k - 1 ≡ k = omega arith in
          let named : served_at messages (suc k) ≡ i
          = ap (λ n. get_or messages n 0) place ∙ get_or_default messages k 0 i within ∙ is in
          elim (cases_order (suc k) p) [
            | inr (inl less) ↦
                let ordered : IsOrdered course.tree (map (held_of course.assigned) messages) (suc k) p
                = record {
                  from = omega arith;
                  earlier = less;
                  to = omega (arith, to, long);
                  excludes = subst (λ held. ExcludeEachOther course.tree (held_of (map (held_of course.assigned) messages) (suc k)) held)
                      (sym (held_at p from to))
                      (subst (λ held. ExcludeEachOther course.tree held (held_of course.assigned (served_at messages p)))
                      (sym (held_at (suc k) (omega arith) (omega (arith, within)) ∙ ap (held_of course.assigned) named)) served.excludes);
                } in
                let path = h.joined.needs.paths (suc k) p ordered in
                subst (HasEnded s) named (ended_along path.0 (suc k) p done path.1)
            | inl same ↦
                let is_p : i ≡ served_at messages p = sym named ∙ ap (served_at messages) same in
                absurd (never_itself (key_in course s) (served_at messages p)
                (subst (λ n. ComesBefore (key_in course s) n (served_at messages p)) is_p served.precedes))
            | inr (inr more) ↦
                absurd (h.sorted (p - 1) k (omega (arith, from, more)) within
                (subst (λ n. ComesBefore (key_in course s) n (served_at messages p))
                (sym (get_or_default messages k 0 i within ∙ is)) served.precedes))
          ]
    ]

  -- the order stays where what has ended keeps its turn, and what is issued from now on waits and is served after those that have joined
  module _ (t : State) (later_waits : List (ℕ × ℕ)) (same : (f : ℕ) → HasEnded s f → turn_of t f ≡ turn_of s f) (clock : s.clock ≤ t.clock)
      (new : (i : ℕ) → IsAmongFirst course.work.count i → IsIssued course t i → IsIssued course s i ⊎ Contains later_waits (key_in course t i, i))
      (old : (r : ℕ × ℕ) → Contains later_waits r
      → Contains waits r ⊎ (IsKeyed course t r × ((i : ℕ) → Contains messages i → IsDueFirst (key_in course s i, i) r)))
      (kept : (r : ℕ × ℕ) → Contains waits r → Contains later_waits r) where
    still_issued : (i : ℕ) → IsIssued course s i → IsIssued course t i
    still_issued i issued f awaited = let ended = issued f awaited in ap (λ (turn : Turn). turn.ended) (same f ended) ∙ ended

    same_key : (i : ℕ) → IsIssued course s i → key_in course t i ≡ key_in course s i
    same_key i issued = key_kept course s t same i issued

    joined_key : (i : ℕ) → Contains messages i → key_in course t i ≡ key_in course s i
    joined_key i joins = same_key i (h.each i joins).1

    pub lined_still : IsLined course t spans joining messages later_waits
    lined_still = record {
      joined = h.joined;
      each = λ i joins. let is = h.each i joins in (is.0, still_issued i is.1);
      known = λ i number issued. elim (new i number issued) [
        | inr waits_now ↦ inr waits_now
        | inl was ↦ elim (h.known i number was) [
          | inl joins ↦ inl joins
          | inr waits_on ↦ inr (subst (λ k. Contains later_waits (k, i)) (sym (same_key i was)) (kept (key_in course s i, i) waits_on))
        ]
      ];
      sorted = λ p q less within before.
          let at_p = Contains-get_or messages p 0 (omega (arith, less, within)) in
          let at_q = Contains-get_or messages q 0 within in
          h.sorted p q less within
          (comes_same (key_in course t) (key_in course s) (get_or messages q 0) (get_or messages p 0)
          (joined_key (get_or messages q 0) at_q) (joined_key (get_or messages p 0) at_p) before);
      later = λ i r joins waits_on.
          subst (λ k. IsDueFirst (k, i) r) (sym (joined_key i joins))
          (elim (old r waits_on) [ inl was ↦ h.later i r joins was | inr is ↦ is.1 i joins ]);
      come = λ version i joins. let was = h.come version i joins in let key = joined_key i joins in omega (arith, was, key, clock);
      waiting = λ r waits_on. elim (old r waits_on) [
        | inl was ↦
            let is = h.waiting r was in
            record { number = is.number; issued = still_issued r.1 is.issued; key = same_key r.1 is.issued ∙ is.key }
        | inr is ↦ is.0
      ];
    }

  -- the one that is served first of those that wait joins the others
  module _ (r : ℕ × ℕ) (rest : List (ℕ × ℕ)) (leaves : LeavesDue waits r rest) (passed : r.0 < s.clock) (after : Joined)
      (have : HaveJoined course.tree spans (map (held_of course.assigned) messages ++ held_of course.assigned r.1 ∷ []) after) where
    was_waiting : (x : ℕ × ℕ) → Contains (r ∷ rest) x → Contains waits x
    was_waiting x waits_on = Contains-permutation (r ∷ rest) waits x (IsPermutation-sym waits (r ∷ rest) leaves.rest) waits_on

    keyed : IsKeyed course s r
    keyed = h.waiting r (was_waiting r (contains_first r rest))

    -- r comes no later than what still waits, and no sooner than what has joined
    key_is : (key_in course s r.1, r.1) ≡ r
    key_is = ap (λ k. (k, r.1)) keyed.key

    pub lined_more : IsLined course s spans after (messages ++ r.1 ∷ []) rest
    lined_more = record {
      joined = subst (λ xs. HaveJoined course.tree spans xs after) (sym (map_push (held_of course.assigned) messages r.1)) have;
      each = λ i joins. elim (Contains-push_cases messages r.1 i joins) [
        | inl was ↦ h.each i was
        | inr is ↦ subst (λ n. IsAmongFirst course.work.count n × IsIssued course s n) is (keyed.number, keyed.issued)
      ];
      known = λ i number issued. elim (h.known i number issued) [
        | inl joins ↦ inl (Contains-append_left messages (r.1 ∷ []) i joins)
        | inr waits_on ↦
            elim (contains_rest_of r (key_in course s i, i) rest
            (Contains-permutation waits (r ∷ rest) (key_in course s i, i) leaves.rest waits_on)) [
              | inl still ↦ inr still
              | inr is ↦ inl (subst (Contains (messages ++ r.1 ∷ [])) (ap (λ (x : ℕ × ℕ). x.1) (sym is)) (Contains-push messages r.1))
            ]
      ];
      sorted = λ p q less within before.
          let long = length_push messages r.1 in
          elim (cases_lt q (length messages)) [
            | inl inside ↦
                h.sorted p q less inside
                (subst (λ n. ComesBefore (key_in course s) n (get_or messages p 0)) (get_or_append_left messages (r.1 ∷ []) 0 q inside)
                (subst (λ n. ComesBefore (key_in course s) (get_or (messages ++ r.1 ∷ []) q 0) n)
                (get_or_append_left messages (r.1 ∷ []) 0 p (omega (arith, less, inside))) before))
            | inr last ↦
                let inside : p < length messages = omega (arith, less, within, long) in
                not_before (key_in course s) (get_or messages p 0) r.1
                (subst (IsDueFirst (key_in course s (get_or messages p 0), get_or messages p 0)) (sym key_is)
                (h.later (get_or messages p 0) r (Contains-get_or messages p 0 inside) (was_waiting r (contains_first r rest))))
                (subst (λ n. ComesBefore (key_in course s) n (get_or messages p 0))
                (get_or_push messages r.1 0 q (omega (arith, last, within, long)))
                (subst (λ n. ComesBefore (key_in course s) (get_or (messages ++ r.1 ∷ []) q 0) n)
                (get_or_append_left messages (r.1 ∷ []) 0 p inside) before))
          ];
      later = λ i x joins waits_on. elim (Contains-push_cases messages r.1 i joins) [
        | inl was ↦ h.later i x was (was_waiting x (contains_more r x rest waits_on))
        | inr is ↦
            subst (λ n. IsDueFirst (key_in course s n, n) x) is (subst (λ y. IsDueFirst y x) (sym key_is) (leaves.least x waits_on))
      ];
      come = λ version i joins. elim (Contains-push_cases messages r.1 i joins) [
        | inl was ↦ h.come version i was
        | inr is ↦ let key = keyed.key in subst (λ n. key_in course s n < s.clock) is (omega (arith, key, passed))
      ];
      waiting = λ x waits_on. h.waiting x (was_waiting x (contains_more r x rest waits_on));
    }

-- The messages that are issued, in the order of issue: their needs by number are those of the order of service.
use Rattle.std.proofs.Common.{◌≡◌, ℕ, zero, suc, ◌+◌, ◌-◌, ◌<◌, ◌≤◌, inl, inr, List, [], length, map, get_or, Contains, arith, sym, ◌∙◌, ap, subst}
use Rattle.std.proofs.lemmas.Bool.{cases_lt, cases_order}
use Rattle.std.proofs.lemmas.List.{get_or-map, get_or_default, length-map}
use Rattle.std.proofs.lemmas.List.Elements.{Contains-get_or}
use Rattle.waff_assign.specs.Held.{Held, nothing}
use Rattle.waff_assign.specs.Order.{Relation, IsOrdered, PathBy, Path, held_of}
use Rattle.waff_model.specs.Tree.{Node}
use Rattle.waff_model.specs.declared.preorder.Span.{Span}
use Rattle.waff_plan.specs.Issues.{IsIssuedBefore, IsServedBefore}
use Rattle.waff_plan.specs.Work.{Work, IsNumber, IsAmongFirst, issue_of}
use Rattle.waff_plan.proofs.IssueOrder.{issued_not_itself, issued_on}
use Rattle.waff_order.specs.Needs.{IsNeed, needs_of}
use Rattle.waff_order.specs.Joined.{Joined, HaveJoined}
use Rattle.waff_order.proofs.NeedLemmas.{need_within}
use Rattle.waff_list.specs.Issuing.{AreNeedsByNumber, AreServed, served_at}
use Rattle.waff_waits.proofs.Each.{contains_map, contains_mapped, each_there}

module _ (tree : List Node) (spans : List Span) (assigned : List Held) (work : Work) where
  abbrev before_at : (ℕ → ℕ) → Relation
  before_at start = IsServedBefore tree assigned work start

  -- the messages that have joined, and their needs by number
  module _ (start : ℕ → ℕ) (now : ℕ) (served : List ℕ) (joined : Joined) (needs : List (List ℕ)) (are : AreServed work start now served)
      (have : HaveJoined tree spans (map (held_of assigned) served) joined) (told : AreNeedsByNumber work.count served joined needs) where
    long : length (map (held_of assigned) served) ≡ length served
    long = length-map served (held_of assigned)

    stands : (p : ℕ) → 1 ≤ p → p ≤ length served → Contains served (served_at served p)
    stands p from to = Contains-get_or served (p - 1) 0 (omega arith)

    -- each message that is issued by now has a place
    pub place_in : (m : ℕ) → IsNumber work m → issue_of work start m ≤ now → (p : ℕ) × IsAmongFirst (length served) p × (served_at served p ≡ m)
    place_in m number issued =
        let there = each_there (λ x. IsNumber work x × (issue_of work start x ≤ now)) served are.each m (number, issued) in
        let i = there.0 in
        let at : i + 1 - 1 ≡ i = omega arith in
        (i + 1, record { from = omega arith; to = omega (arith, there.1) }, ap (λ j. get_or served j 0) at ∙ get_or_default served i 0 m there.1 ∙ there.2)

    held_at : (p : ℕ) → 1 ≤ p → p ≤ length served → held_of (map (held_of assigned) served) p ≡ held_of assigned (served_at served p)
    held_at p from to = get_or-map (held_of assigned) served (p - 1) 0 nothing (omega arith)

    -- a pair of places in the order of service is one of messages
    pub pair_of_places : (p q : ℕ) → IsOrdered tree (map (held_of assigned) served) p q → before_at start (served_at served p) (served_at served q)
    pair_of_places p q pair =
        let q_to : q ≤ length served = omega (arith, pair.to, long) in
        let p_from : 1 ≤ p = pair.from in
        let earlier : p < q = pair.earlier in
        let first = are.each.only (served_at served p) (stands p p_from (omega arith)) in
        let second = are.each.only (served_at served q) (stands q (omega arith) q_to) in
        record {
          first = first.0;
          second = second.0;
          precedes = are.sorted (p - 1) (q - 1) 0 (omega arith) (omega arith);
          excludes = rw (sym (held_at p p_from (omega arith)), sym (held_at q (omega arith) q_to)) pair.excludes;
        }

    -- and the other way round
    pub places_of_pair : (i m : ℕ) → before_at start i m → issue_of work start m ≤ now
        → (p : ℕ) × (q : ℕ) × (served_at served p ≡ i) × (served_at served q ≡ m) × IsOrdered tree (map (held_of assigned) served) p q
    places_of_pair i m pair issued =
        let sooner : issue_of work start i ≤ now = elim pair.precedes [ inl less ↦ omega (arith, less, issued) | inr same ↦ omega (arith, same.0, issued) ] in
        let at_i = place_in i pair.first sooner in
        let at_m = place_in m pair.second issued in
        let p = at_i.0 in
        let q = at_m.0 in
        let earlier : p < q = elim (cases_order p q) [
          | inl same ↦ absurd (issued_not_itself work start m (subst (λ x. IsIssuedBefore work start x m) (sym at_i.2 ∙ ap (served_at served) same ∙ at_m.2) pair.precedes))
          | inr (inl less) ↦ less
          | inr (inr more) ↦
              let back = are.sorted (q - 1) (p - 1) 0 (omega (arith, at_m.1.from, more)) (omega (arith, at_i.1.from, at_i.1.to)) in
              absurd (issued_not_itself work start m (issued_on work start m i m
              (subst (λ y. IsIssuedBefore work start y i) at_m.2 (subst (λ x. IsIssuedBefore work start (served_at served q) x) at_i.2 back)) pair.precedes))
        ] in (
          p,
          q,
          at_i.2,
          at_m.2,
          record {
            from = at_i.1.from;
            earlier = earlier;
            to = omega (arith, at_m.1.to, long);
            excludes = rw (held_at p at_i.1.from at_i.1.to, held_at q at_m.1.from at_m.1.to, at_i.2, at_m.2) pair.excludes;
          },
        )

    -- needs by place are needs by number
    pub need_by_number : (p q : ℕ) → IsNeed joined.needs p q → IsNeed needs (served_at served p) (served_at served q)
    need_by_number p q need =
        let to : q ≤ length served = omega (arith, need_within joined.needs p q need, have.needs.count, long) in
        let second = are.each.only (served_at served q) (stands q need.from to) in
        record {
          from = second.0.from;
          listed = subst (λ xs. Contains xs (served_at served p)) (sym (told.of_served q (record { from = need.from; to = to })))
              (contains_map (served_at served) (needs_of joined.needs q) p need.listed);
        }

    path_by_number : (n p q : ℕ) → PathBy (IsNeed joined.needs) n p q → PathBy (IsNeed needs) n (served_at served p) (served_at served q)
    path_by_number zero p q need = need_by_number p q need
    path_by_number (suc n) p q (r, first, rest) = (served_at served r, need_by_number p r first, path_by_number n r q rest)

    -- what is served before a message that has joined has a path through needs to it
    pub path_of_pair : (i m : ℕ) → before_at start i m → issue_of work start m ≤ now → Path (IsNeed needs) i m
    path_of_pair i m pair issued =
        let at = places_of_pair i m pair issued in
        let path = have.needs.paths at.0 at.1 at.4 in
        subst (λ x. Path (IsNeed needs) x m) at.2 (subst (λ y. Path (IsNeed needs) (served_at served at.0) y) at.3
        (path.0, path_by_number path.0 at.0 at.1 path.1))

    -- a need is served before the message that needs it, which has joined
    pub need_is_served : (i m : ℕ) → IsNeed needs i m → before_at start i m × (issue_of work start m ≤ now)
    need_is_served i m need =
        let m_number : IsNumber work m = record { from = need.from; to = omega (arith, need_within needs i m need, told.count) } in
        elim (cases_lt now (issue_of work start m)) [
          | inl late ↦
              let none = told.of_others m m_number (λ there. let is = are.each.only m there in omega (arith, late, is.1)) in
              let nothing : Contains [] i = subst (λ xs. Contains xs i) none need.listed in
              absurd (omega (arith, nothing.1))
          | inr issued ↦
              let at = place_in m m_number issued in
              let q = at.0 in
              let listed : Contains (map (served_at served) (needs_of joined.needs q)) i
              = subst (λ xs. Contains xs i) (told.of_served q at.1) (subst (λ x. Contains (needs_of needs x) i) (sym at.2) need.listed) in
              let one = contains_mapped (served_at served) (needs_of joined.needs q) i listed in
              let p = one.0 in
              let pair = pair_of_places p q (have.needs.ordered p q (record { from = at.1.from; listed = one.1 })) in
              (subst (λ x. before_at start x m) one.2 (subst (λ y. before_at start (served_at served p) y) at.2 pair), issued)
        ]

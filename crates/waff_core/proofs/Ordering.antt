-- Orders of messages, one message after another.
use Rattle.std.proofs.Common.{◌≡◌, ◌≢◌, ◌↔◌, ℕ, ◌+◌, ◌-◌, ◌<◌, ◌≤◌, Bool, true, false, List, length, get_or, set, All, arith, ap, sym, ◌∙◌, subst, ⊎_elim}
use Rattle.std.proofs.lemmas.Bool.{cases_eq}
use Rattle.std.proofs.lemmas.List.{get_or_default, get_or-set_same, get_or-set_other, length-set}
use Rattle.std.proofs.lemmas.List.Elements.{Contains-get_or, All-contains}
use Rattle.std.proofs.lemmas.Option.{same_Some, slice_get_within, slice_get-get_or, get_or_from_slice_get}
use Rattle.waff_order.specs.Needs.{needs_of, IsNeed, AreLists}
use Rattle.waff_core.specs.Job.{StandsAt, IsOrder}
use Rattle.waff_core.specs.Orders.{IsMarked, MayStand}

-- each need is an earlier message
pub record AreEarlier (needs : List (List ℕ)) : Type 0 where
  pub from : (i j : ℕ) → IsNeed needs i j → 1 ≤ i
  pub earlier : (i j : ℕ) → IsNeed needs i j → i < j

pub lists_are_earlier : (needs : List (List ℕ)) → AreLists needs → AreEarlier needs
lists_are_earlier needs lists = record { from = lists.from; earlier = lists.earlier }

-- message n stands before this place
abbrev pub StandsBefore : List ℕ → ℕ → ℕ → Type 0
StandsBefore order k n = (place : ℕ) × (place < k) × StandsAt order place n

-- the first k messages of the order, which are marked
pub record IsOrderUpTo (needs : List (List ℕ)) (order : List ℕ) (marks : List Bool) (k : ℕ) : Type 0 where
  pub count : length marks ≡ length needs
  pub marked : (n : ℕ) → 1 ≤ n → n ≤ length needs → IsMarked marks n ↔ StandsBefore order k n
  pub messages : (place n : ℕ) → place < k → StandsAt order place n → (1 ≤ n) × (n ≤ length needs)
  pub once : (place other n : ℕ) → place < k → other < k → StandsAt order place n → StandsAt order other n → place ≡ other
  pub closed : (i j other : ℕ) → other < k → IsNeed needs i j → StandsAt order other j → StandsBefore order other i

later : (order : List ℕ) (k n : ℕ) → StandsBefore order k n → StandsBefore order (k + 1) n
later order k n before = (before.0, omega (arith, before.1), before.2)

-- one message more
pub order_more : (needs : List (List ℕ)) (order : List ℕ) (marks : List Bool) (k n : ℕ) → AreEarlier needs → StandsAt order k n
    → MayStand needs marks n → IsOrderUpTo needs order marks k → IsOrderUpTo needs order (set marks (n - 1) true) (k + 1)
order_more needs order marks k n lists at may h =
    let within : n - 1 < length marks = omega (arith, may.from, may.to, h.count) in
    let own : IsMarked (set marks (n - 1) true) n = get_or-set_same marks (n - 1) true false within in
    record {
      count = length-set marks (n - 1) true ∙ h.count;
      marked = λ m from to.
          ⊎_elim {C = IsMarked (set marks (n - 1) true) m ↔ StandsBefore order (k + 1) m}
          (λ (same : m ≡ n). (
            λ is. (k, omega arith, subst (StandsAt order k) (sym same) at),
            λ before. subst (IsMarked (set marks (n - 1) true)) (sym same) own,
          ))
          (λ (other : m ≢ n).
          let apart : m - 1 ≢ n - 1 = λ e. other (omega (arith, e, from, may.from)) in
          let kept : get_or (set marks (n - 1) true) (m - 1) false ≡ get_or marks (m - 1) false
          = get_or-set_other marks (n - 1) (m - 1) true false apart in (
            λ is. later order k m ((h.marked m from to).0 (sym kept ∙ is)),
            λ before.
                ⊎_elim {C = IsMarked (set marks (n - 1) true) m}
                (λ (last : before.0 ≡ k).
                absurd (other (same_Some m n (sym (subst (λ place. StandsAt order place m) last before.2) ∙ at))))
                (λ (earlier : before.0 ≢ k).
                kept ∙ (h.marked m from to).1 (before.0, omega (arith, before.1), before.2))
                (cases_eq before.0 k),
          ))
          (cases_eq m n);
      messages = λ place m before there.
          ⊎_elim {C = (1 ≤ m) × (m ≤ length needs)}
          (λ (last : place ≡ k).
          let same : n ≡ m = same_Some n m (sym at ∙ subst (λ p. StandsAt order p m) last there) in
          (omega (arith, may.from, same), omega (arith, may.to, same)))
          (λ (earlier : place ≢ k). h.messages place m (omega (arith, before)) there)
          (cases_eq place k);
      once = λ place other m before after there here.
          let fresh = λ (p : ℕ) (early : p < k) (on : StandsAt order p n). may.fresh ((h.marked n may.from may.to).1 (p, early, on)) in
          ⊎_elim {C = place ≡ other}
          (λ (last : place ≡ k).
          let same : n ≡ m = same_Some n m (sym at ∙ subst (λ p. StandsAt order p m) last there) in
          ⊎_elim {C = place ≡ other}
          (λ (both : other ≡ k). last ∙ sym both)
          (λ (earlier : other ≢ k). absurd (fresh other (omega (arith, after)) (subst (StandsAt order other) (sym same) here)))
          (cases_eq other k))
          (λ (early : place ≢ k).
          ⊎_elim {C = place ≡ other}
          (λ (both : other ≡ k).
          let same : n ≡ m = same_Some n m (sym at ∙ subst (λ p. StandsAt order p m) both here) in
          absurd (fresh place (omega (arith, before)) (subst (StandsAt order place) (sym same) there)))
          (λ (earlier : other ≢ k). h.once place other m (omega (arith, before)) (omega (arith, after)) there here)
          (cases_eq other k))
          (cases_eq place k);
      closed = λ i j other before need there.
          ⊎_elim {C = StandsBefore order other i}
          (λ (last : other ≡ k).
          let same : j ≡ n = same_Some j n (sym (subst (λ p. StandsAt order p j) last there) ∙ at) in
          let needed : IsNeed needs i n = subst (IsNeed needs i) same need in
          let early : i < n = lists.earlier i n needed in
          let is : IsMarked marks i = All-contains (IsMarked marks) (needs_of needs n) i may.needed needed.listed in
          subst (λ p. StandsBefore order p i) (sym last)
          ((h.marked i (lists.from i n needed) (omega (arith, early, may.to))).0 is))
          (λ (earlier : other ≢ k). h.closed i j other (omega (arith, before)) need there)
          (cases_eq other k);
    }

-- in an order each message may stand after those before it
pub order_next : (needs : List (List ℕ)) (order : List ℕ) (marks : List Bool) (k n : ℕ) → AreEarlier needs → StandsAt order k n
    → IsOrderUpTo needs order marks k → IsOrder needs order → MayStand needs marks n
order_next needs order marks k n lists at h o =
    let range : (1 ≤ n) × (n ≤ length needs) = All-contains (λ n. (1 ≤ n) × (n ≤ length needs)) order n o.messages
    (k, slice_get_within order k n at, get_or_from_slice_get order k n n at) in
    record {
      from = range.0;
      to = range.1;
      fresh = λ is.
          let before = (h.marked n range.0 range.1).0 is in
          let same : before.0 ≡ k = o.once before.0 k n before.2 at in
          omega (arith, before.1, same);
      needed = λ q d within.
          let i = get_or (needs_of needs n) q d in
          let need : IsNeed needs i n = record { from = range.0; listed = Contains-get_or (needs_of needs n) q d within } in
          let early : i < n = lists.earlier i n need in
          let from : 1 ≤ i = lists.from i n need in
          let to : i ≤ length needs = omega (arith, early, range.1) in
          let stands = o.each i from to in
          (h.marked i from to).1 (stands.0, o.needed i n stands.0 k need stands.1 at, stands.1);
    }

-- where all are marked after the last, the list is an order
pub order_all : (needs : List (List ℕ)) (order : List ℕ) (marks : List Bool) (k : ℕ) → length order ≤ k
    → IsOrderUpTo needs order marks k → All (λ mark. mark ≡ true) marks → IsOrder needs order
order_all needs order marks k whole h all =
    let early = λ (place n : ℕ) (at : StandsAt order place n). let within = slice_get_within order place n at in let before : place < k = omega (arith, within, whole) in before in
    record {
      messages = λ place d within.
          h.messages place (get_or order place d) (omega (arith, within, whole)) (slice_get-get_or order place d within);
      each = λ n from to.
          let before = (h.marked n from to).0 (all (n - 1) false (omega (arith, from, to, h.count))) in
          (before.0, before.2);
      once = λ place other n at at'. h.once place other n (early place n at) (early other n at') at at';
      needed = λ i j place other need at at'.
          let before = h.closed i j other (early other j at') need at' in
          let same : place ≡ before.0 = h.once place before.0 i (early place i at) (early before.0 i before.2) at before.2 in
          omega (arith, before.1, same);
    }

-- after an order all are marked
pub order_marks : (needs : List (List ℕ)) (order : List ℕ) (marks : List Bool) (k : ℕ) → length order ≤ k
    → IsOrderUpTo needs order marks k → IsOrder needs order → All (λ mark. mark ≡ true) marks
order_marks needs order marks k whole h o = λ p d within.
    let stands = o.each (p + 1) (omega arith) (omega (arith, within, h.count)) in
    let inside = slice_get_within order stands.0 (p + 1) stands.1 in
    let is = (h.marked (p + 1) (omega arith) (omega (arith, within, h.count))).1 (stands.0, omega (arith, inside, whole), stands.1) in
    let place : p + 1 - 1 ≡ p = omega arith in
    let same : get_or marks p false ≡ get_or marks p d = get_or_default marks p false d within in
    sym same ∙ ap (λ q. get_or marks q false) (sym place) ∙ is

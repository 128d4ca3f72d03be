-- What is said of the first messages, where another list says the same of what they hold.
use Rattle.std.proofs.Common.{◌≡◌, ℕ, ◌+◌, ◌≤◌, inl, inr, List, Some, arith, sym, subst}
use Rattle.waff_model.specs.Tree.{Node}
use Rattle.waff_assign.specs.Held.{Held, UsesAlone, UsesShared}
use Rattle.waff_assign.specs.Order.{held_of}
use Rattle.waff_order.specs.Open.{Holds, HoldsOver, IsChosen, IsLatestOver, IsNeededAt, IsOpen, Place, affinity, below, lock}
use Rattle.waff_order.specs.Joined.{IsNoted, IsTaken}
use Rattle.waff_order.specs.Takers.{LockState}

-- the first messages hold the same
abbrev pub Agree : List Held → List Held → ℕ → Type 0
Agree assigned other count = (i : ℕ) → 1 ≤ i → i ≤ count → held_of assigned i ≡ held_of other i

pub agree_back : (assigned other : List Held) (count : ℕ) → Agree assigned other count → Agree other assigned count
agree_back assigned other count agree i from to = sym (agree i from to)

module _ (tree : List Node) where
  pub holds_as : (assigned other : List Held) (count : ℕ) → Agree assigned other count → (i : ℕ) → 1 ≤ i → i ≤ count → (p : Place)
      → Holds assigned i p → Holds other i p
  holds_as assigned other count agree i from to (affinity a) h = subst (λ (x : Held). x.affinity ≡ Some a) (agree i from to) h
  holds_as assigned other count agree i from to (lock l) h = subst (λ x. UsesAlone x l) (agree i from to) h
  holds_as assigned other count agree i from to (below l m) h = (h.0, subst (λ x. UsesShared x l) (agree i from to) h.1)

  pub over_as : (assigned other : List Held) (count : ℕ) → Agree assigned other count → (i : ℕ) → 1 ≤ i → i ≤ count → (p : Place)
      → HoldsOver tree assigned i p → HoldsOver tree other i p
  over_as assigned other count agree i from to p h = (h.0, holds_as assigned other count agree i from to h.0 h.1, h.2)

  module _ (assigned other : List Held) (count : ℕ) (agree : Agree assigned other count) (n : ℕ) (few : n ≤ count) where
    back : Agree other assigned count
    back = agree_back assigned other count agree

    pub open_as : (i : ℕ) (p : Place) → IsOpen tree assigned n i p → IsOpen tree other n i p
    open_as i p h =
        let from : 1 ≤ i = h.from in
        let to : i ≤ n = h.to in
        record {
          from = from;
          to = to;
          held = holds_as assigned other count agree i from (omega arith) p h.held;
          free = λ j after before is. h.free j after before (over_as other assigned count back j (omega arith) (omega arith) p is);
        }

    pub latest_as : (i : ℕ) (p : Place) → IsLatestOver tree assigned n i p → IsLatestOver tree other n i p
    latest_as i p h =
        let from : 1 ≤ i = h.from in
        let to : i ≤ n = h.to in
        record {
          from = from;
          to = to;
          over = over_as assigned other count agree i from (omega arith) p h.over;
          latest = λ j before after is. h.latest j before after (over_as other assigned count back j after (omega arith) p is);
        }

    pub noted_as : (p : Place) (v : ℕ) → IsNoted tree assigned n p v → IsNoted tree other n p v
    noted_as p v h = record {
      some = λ some. latest_as v p (h.some some);
      latest = λ j before after is. h.latest j before after (over_as other assigned count back j after (omega arith) p is);
    }

    pub taken_as : (l : ℕ) (state : LockState) → IsTaken assigned n l state → IsTaken other n l state
    taken_as l state h = record {
      alone = λ some. let there = h.alone some in (there.0, subst (λ x. UsesAlone x l) (agree state.alone (omega arith) (let to : state.alone ≤ n = there.0 in omega arith)) there.1);
      latest = λ j from to uses. h.latest j from to (subst (λ x. UsesAlone x l) (back j from (omega arith)) uses);
      sharers = λ i has. let there = h.sharers i has in
          let to : i ≤ n = there.1 in
          (there.0, to, subst (λ x. UsesShared x l) (agree i there.0 (omega arith)) there.2, there.3);
      each = λ i from to uses later. h.each i from to (subst (λ x. UsesShared x l) (back i from (omega arith)) uses) later;
      falling = h.falling;
    }

  pub needed_as : (assigned other : List Held) (count : ℕ) → Agree assigned other count → (n : ℕ) → n ≤ count → (i : ℕ) (p : Place)
      → IsNeededAt tree assigned n i p → IsNeededAt tree other n i p
  needed_as assigned other count agree n few i p h = elim h [
    | inl is ↦ inl (is.0, is.1, open_as assigned other count agree n few i is.0 is.2)
    | inr is ↦ inr (
      λ j there. is.0 j (there.0, there.1, open_as other assigned count (agree_back assigned other count agree) n few j there.0 there.2),
      latest_as assigned other count agree n few i p is.1,
    )
  ]

  -- a list that is chosen by one is chosen by the other
  pub chosen_as : (assigned other : List Held) (count : ℕ) → Agree assigned other count → (n : ℕ) → n + 1 ≤ count → (needs : List ℕ)
      → IsChosen tree assigned n needs → IsChosen tree other n needs
  chosen_as assigned other count agree n room needs h = record {
    each = λ i. (
      λ has. let there = (h.each i).0 has in (
        there.0,
        holds_as assigned other count agree (n + 1) (omega arith) room there.0 there.1,
        needed_as assigned other count agree n (omega arith) i there.0 there.2,
      ),
      λ there. (h.each i).1 (
        there.0,
        holds_as other assigned count (agree_back assigned other count agree) (n + 1) (omega arith) room there.0 there.1,
        needed_as other assigned count (agree_back assigned other count agree) n (omega arith) i there.0 there.2,
      ),
    );
    rising = h.rising;
  }

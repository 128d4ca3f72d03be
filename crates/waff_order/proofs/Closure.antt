-- The needs of one message after another: each ordered pair is a path through needs.
use Rattle.std.proofs.Common.{◌≡◌, ℕ, zero, suc, ◌+◌, ◌<◌, ◌≤◌, ◌⊎◌, ◌↔◌, inl, inr, List, [], ◌∷◌, Contains, arith, sym, subst}
use Rattle.std.proofs.lemmas.Bool.{cases_lt, cases_order}
use Rattle.waff_model.specs.Tree.{Node, IsTree}
use Rattle.waff_model.proofs.Members.{in_none, in_first, in_cases}
use Rattle.waff_assign.specs.Held.{Held}
use Rattle.waff_assign.specs.Order.{Path, Relation}
use Rattle.waff_order.specs.Open.{Holds, IsLatestOver, IsNeededAt, IsOpen, IsOpenBelow, IsOver, Place}
use Rattle.waff_order.specs.Joined.{IsNoted}
use Rattle.waff_order.specs.Runs.{chosen}
use Rattle.waff_order.proofs.NeedLemmas.{path_weaker, path_one, path_join}
use Rattle.waff_order.proofs.Places.{over_transitive, over_comparable}

-- what is open at or below a place, and the latest message that holds a place at or above it
pub record IsFound (tree : List Node) (assigned : List Held) (n : ℕ) (at : Place) (list : List ℕ) (above : ℕ) : Type 0 where
  pub opens : (i : ℕ) → Contains list i ↔ IsOpenBelow tree assigned n i at
  pub noted : IsNoted tree assigned n at above

module _ (tree : List Node) (assigned : List Held) (n : ℕ) (at : Place) where
  -- what is chosen is what is needed
  pub needed_of : (opens : List ℕ) (above i : ℕ) → IsFound tree assigned n at opens above → Contains (chosen opens above) i
      → IsNeededAt tree assigned n i at
  needed_of [] zero i found listed = absurd (in_none i listed)
  needed_of [] (suc a) i found listed = elim (in_cases (suc a) [] i listed) [
    | inl same ↦ inr (λ j is. in_none j ((found.opens j).1 is), subst (λ x. IsLatestOver tree assigned n x at) same (found.noted.some (omega arith)))
    | inr none ↦ absurd (in_none i none)
  ]
  needed_of (o ∷ rest) above i found listed = inl ((found.opens i).0 listed)

  only_above : (above i : ℕ) → 1 ≤ i → i ≡ above → Contains (chosen [] above) i
  only_above zero i from same = absurd (omega arith)
  only_above (suc a) i from same = subst (λ x. Contains (suc a ∷ []) x) (sym same) (in_first (suc a) [])

  pub chosen_of : (opens : List ℕ) (above i : ℕ) → IsFound tree assigned n at opens above → IsNeededAt tree assigned n i at
      → Contains (chosen opens above) i
  chosen_of [] above i found (inl is) = absurd (in_none i ((found.opens i).1 is))
  chosen_of [] above i found (inr (none, is)) =
      let from : 1 ≤ i = is.from in
      let low : i ≤ above = found.noted.latest i is.to is.from is.over in
      let there = found.noted.some (omega arith) in
      let high : above ≤ i = is.latest above there.to there.from there.over in
      only_above above i from (omega arith)
  chosen_of (o ∷ rest) above i found (inl is) = (found.opens i).1 is
  chosen_of (o ∷ rest) above i found (inr (none, is)) = absurd (none o ((found.opens o).0 (in_first o rest)))

-- each message before that excludes message n + 1, by a place that this one holds, leads to it
module _ (tree : List Node) (is_tree : IsTree tree) (assigned : List Held) (near more : Relation) (n : ℕ)
    (weaker : (i j : ℕ) → near i j → more i j)
    (before : (i j : ℕ) → 1 ≤ i → i < j → j ≤ n → (p q : Place) → Holds assigned i p → Holds assigned j q
    → IsOver tree p q ⊎ IsOver tree q p → Path near i j)
    (noted : (i : ℕ) (q : Place) → 1 ≤ i → i ≤ n → Holds assigned i q → (v : ℕ) × IsNoted tree assigned n q v)
    (at : Place) (opens : List ℕ) (above : ℕ) (found : IsFound tree assigned n at opens above)
    (listed : (i : ℕ) → IsNeededAt tree assigned n i at → more i (n + 1)) where
  -- by way of another
  by_way : (i j : ℕ) (p q : Place) → 1 ≤ i → i < j → j ≤ n → Holds assigned i p → Holds assigned j q → IsOver tree p q ⊎ IsOver tree q p
      → Path more j (n + 1) → Path more i (n + 1)
  by_way i j p q from less to one two over path =
      path_join more i j (n + 1) (path_weaker near more weaker i j (before i j from less to p q one two over)) path

  leads_below : (i : ℕ) (q : Place) → 1 ≤ i → i ≤ n → Holds assigned i q → IsOver tree at q
      → ((j : ℕ) (r : Place) → i < j → j ≤ n → Holds assigned j r → IsOver tree at r ⊎ IsOver tree r at → Path more j (n + 1)) → Path more i (n + 1)
  leads_below i q from to holds over later =
      let v = noted i q from to holds in
      elim (cases_lt i v.0) [
        | inl less ↦
            let there = v.1.some (omega arith) in
            by_way i v.0 q there.over.0 from less there.to holds there.over.1 (inr there.over.2)
            (later v.0 there.over.0 less there.to there.over.1 (over_comparable tree at there.over.0 q over there.over.2))
        | inr not_less ↦
            let is_open : IsOpen tree assigned n i q = record {
              from = from;
              to = to;
              held = holds;
              free = λ j after upto is. let early : j ≤ v.0 = v.1.latest j upto (omega arith) is in omega arith;
            } in
            path_one more i (n + 1) (listed i (inl (q, over, is_open)))
      ]

  leads_above : (i : ℕ) (q : Place) → 1 ≤ i → i ≤ n → Holds assigned i q → IsOver tree q at → Path more i (n + 1)
  leads_above i q from to holds over = leads_above_by opens found
    where
      leads_above_by : (list : List ℕ) → IsFound tree assigned n at list above → Path more i (n + 1)
      leads_above_by [] has =
          let late : i ≤ above = has.noted.latest i to from (q, holds, over) in
          let there = has.noted.some (omega arith) in
          let last : Path more above (n + 1) = path_one more above (n + 1) (listed above (inr (λ j is. in_none j ((has.opens j).1 is), there))) in
          elim (cases_order i above) [
            | inl same ↦ subst (λ x. Path more x (n + 1)) (sym same) last
            | inr (inl less) ↦
                by_way i above q there.over.0 from less there.to holds there.over.1 (over_comparable tree q there.over.0 at over there.over.2) last
            | inr (inr more_than) ↦ absurd (omega arith)
          ]
      leads_above_by (o ∷ rest) has =
          let there = (has.opens o).0 (in_first o rest) in
          let r : Place = there.0 in
          let high : IsOver tree q r = over_transitive tree is_tree q at r over there.1 in
          let last : Path more o (n + 1) = path_one more o (n + 1) (listed o (inl there)) in
          elim (cases_order i o) [
            | inl same ↦ subst (λ x. Path more x (n + 1)) (sym same) last
            | inr (inl less) ↦ by_way i o q r from less there.2.to holds there.2.held (inl high) last
            | inr (inr later) ↦ absurd (there.2.free i later to (q, holds, high))
          ]

  leads_by : (fuel i : ℕ) (q : Place) → n < i + fuel → 1 ≤ i → i ≤ n → Holds assigned i q → IsOver tree at q ⊎ IsOver tree q at → Path more i (n + 1)
  leads_by zero i q enough from to holds over = absurd (omega arith)
  leads_by (suc fuel) i q enough from to holds (inl over) =
      leads_below i q from to holds over (λ j r after upto is comparable. leads_by fuel j r (omega arith) (omega arith) upto is comparable)
  leads_by (suc fuel) i q enough from to holds (inr over) = leads_above i q from to holds over

  pub leads_to_next : (i : ℕ) (q : Place) → 1 ≤ i → i ≤ n → Holds assigned i q → IsOver tree at q ⊎ IsOver tree q at → Path more i (n + 1)
  leads_to_next i q from to holds over = leads_by (n + 1) i q (omega arith) from to holds over

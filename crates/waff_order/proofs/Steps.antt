-- What is open and what is the latest, after one message more.
use Rattle.std.proofs.Common.{◌≡◌, ◌≢◌, ℕ, ◌+◌, ◌≤◌, inl, inr, List, Some, None, arith, sym, ◌∙◌, subst}
use Rattle.std.proofs.lemmas.Bool.{cases_eq}
use Rattle.waff_model.specs.Tree.{Node, AtOrAbove, IsTree}
use Rattle.waff_assign.specs.Held.{Held}
use Rattle.waff_assign.specs.Order.{affinity_of}
use Rattle.waff_order.specs.Open.{Holds, HoldsOver, IsLatestOver, IsOpen, Place, affinity, below, lock}
use Rattle.waff_order.specs.Joined.{IsNoted}
use Rattle.waff_order.proofs.Places.{over_transitive}

module _ (tree : List Node) (assigned : List Held) where
  -- a message that holds an affinity, and a place at or above one
  pub over_affinity : (i a : ℕ) → HoldsOver tree assigned i (affinity a) → (b : ℕ) × (affinity_of assigned i ≡ Some b) × AtOrAbove tree b a
  over_affinity i a (affinity b, holds, over) = (b, holds, over)
  over_affinity i a (lock l, holds, over) = absurd over
  over_affinity i a (below l m, holds, over) = absurd over

  pub no_affinity_over : (i a : ℕ) → affinity_of assigned i ≡ None → ¬ HoldsOver tree assigned i (affinity a)
  no_affinity_over i a none over =
      let there = over_affinity i a over in
      let both : None ≡ Some there.0 = sym none ∙ there.1 in
      cc

  module _ (n : ℕ) where
    pub open_more : (i : ℕ) (p : Place) → IsOpen tree assigned n i p → ¬ HoldsOver tree assigned (n + 1) p → IsOpen tree assigned (n + 1) i p
    open_more i p h apart =
        let to : i ≤ n = h.to in
        record {
          from = h.from;
          to = omega arith;
          held = h.held;
          free = λ j after before. elim (cases_eq j (n + 1)) [
            | inl last ↦ subst (λ x. ¬ HoldsOver tree assigned x p) (sym last) apart
            | inr other ↦ h.free j after (omega arith)
          ];
        }

    pub open_last : (p : Place) → Holds assigned (n + 1) p → IsOpen tree assigned (n + 1) (n + 1) p
    open_last p holds = record { from = omega arith; to = omega arith; held = holds; free = λ j after before. absurd (omega arith) }

    pub open_before : (i : ℕ) (p : Place) → i ≢ n + 1 → IsOpen tree assigned (n + 1) i p → IsOpen tree assigned n i p × ¬ HoldsOver tree assigned (n + 1) p
    open_before i p other h =
        let to : i ≤ n + 1 = h.to in (
          record { from = h.from; to = omega arith; held = h.held; free = λ j after before. h.free j after (omega arith) },
          h.free (n + 1) (omega arith) (omega arith),
        )

    pub noted_more : (p : Place) (v : ℕ) → IsNoted tree assigned n p v → ¬ HoldsOver tree assigned (n + 1) p → IsNoted tree assigned (n + 1) p v
    noted_more p v h apart =
        let latest : (j : ℕ) → j ≤ n + 1 → 1 ≤ j → HoldsOver tree assigned j p → j ≤ v = λ j before from over. elim (cases_eq j (n + 1)) [
          | inl last ↦ absurd (apart (subst (λ x. HoldsOver tree assigned x p) last over))
          | inr other ↦ h.latest j (omega arith) from over
        ] in
        record {
          some = λ some.
              let there = h.some some in
              let to : v ≤ n = there.to in
              record { from = there.from; to = omega arith; over = there.over; latest = latest };
          latest = latest;
        }

    pub noted_last : (p : Place) → HoldsOver tree assigned (n + 1) p → IsNoted tree assigned (n + 1) p (n + 1)
    noted_last p over = record {
      some = λ some. record { from = omega arith; to = omega arith; over = over; latest = λ j before from is. before };
      latest = λ j before from is. before;
    }

    -- the latest over a place is open at the place that it holds
    pub latest_open : IsTree tree → (i : ℕ) (p : Place) → (is : IsLatestOver tree assigned n i p) → IsOpen tree assigned n i is.over.0
    latest_open is_tree i p is = record {
      from = is.from;
      to = is.to;
      held = is.over.1;
      free = λ j after before over.
          let from : 1 ≤ i = is.from in
          let late : j ≤ i = is.latest j before (omega arith) (over.0, over.1, over_transitive tree is_tree over.0 is.over.0 p over.2 is.over.2) in
          omega arith;
    }

-- What is noted at the affinities of a tree, carried down to all below.
use Rattle.std.proofs.Common.{◌≡◌, ◌≢◌, ℕ, ◌+◌, ◌<◌, ◌≤◌, ◌⊎◌, List, length, get_or, set, Option, Some, None, arith, refl, sym, ◌∙◌, subst, inl, inr}
use Rattle.std.specs.Prelude.{option_and_then}
use Rattle.std.proofs.lemmas.Bool.{cases_eq, cases_lt}
use Rattle.std.proofs.lemmas.List.{get_or-set_same, get_or-set_other, get_or_past}
use Rattle.waff_model.specs.Tree.{Node, parent_of, AtOrAbove, IsRooted}
use Rattle.waff_model.specs.declared.tree.AffinityId.{AffinityId}
use Rattle.waff_model.proofs.TreeLemmas.{reflexive, comparable, above_child, above_parent, above_root}
use Rattle.waff_order.specs.Lowests.{IsLowestOf, IsLowestNoted, IsLower, IsApart, IsNotedAbove, above_of, Agree}
use Rattle.waff_assign.proofs.Holding.{excludes_sym}
use Rattle.waff_order.proofs.LowestLemmas.{noted_same, noted_is, noted_some, noted_either}

-- at the affinities before n the lowest of what was noted there and above is noted, and at the
-- others what was
pub record IsCarried (tree coarse_tree : List Node) (old : List (Option AffinityId)) (n : ℕ) (new : List (Option AffinityId)) : Type 0 where
  pub before : (b : ℕ) → b < n → IsLowestNoted coarse_tree (IsNotedAbove tree old b) (get_or new b None)
  pub after : (b : ℕ) → n ≤ b → get_or new b None ≡ get_or old b None

module _ (tree coarse_tree : List Node) (old : List (Option AffinityId)) where
  -- noted above n
  abbrev pub IsNotedUp : ℕ → AffinityId → Type 0
  IsNotedUp n x = (p : ℕ) × (parent_of tree n ≡ Some p) × IsNotedAbove tree old p x

  noted_split_by : (n : ℕ) (x : AffinityId) (h : IsNotedAbove tree old n x) → h.place ≢ n → (o : Option ℕ) → parent_of tree n ≡ o → IsNotedUp n x
  noted_split_by n x h other None is = absurd (other (above_root tree h.place n is h.above))
  noted_split_by n x h other (Some p) is =
      (p, is, record { place = h.place; above = above_parent tree h.place n p other is h.above; noted = h.noted })

  noted_split : (n : ℕ) (x : AffinityId) → IsNotedAbove tree old n x → (get_or old n None ≡ Some x) ⊎ IsNotedUp n x
  noted_split n x h =
      elim (cases_eq h.place n) [
        | inl same ↦ inl (subst (λ u. get_or old u None ≡ Some x) same h.noted)
        | inr other ↦ inr (noted_split_by n x h other (parent_of tree n) refl)
      ]

  pub noted_up : (n : ℕ) (x : AffinityId) → IsNotedUp n x → IsNotedAbove tree old n x
  noted_up n x (p, is, h) = record { place = h.place; above = above_child tree h.place n p is h.above; noted = h.noted }

  noted_join : (n : ℕ) (x : AffinityId) → (get_or old n None ≡ Some x) ⊎ IsNotedUp n x → IsNotedAbove tree old n x
  noted_join n x either =
      elim either [ inl own ↦ record { place = n; above = reflexive tree n; noted = own } | inr up ↦ noted_up n x up ]

  own_noted : (o : Option AffinityId) → IsLowestNoted coarse_tree (λ x. o ≡ Some x) o
  own_noted None = λ x is. absurd (cc)
  own_noted (Some y) = record {
    one = refl;
    each = λ x is. let same : y ≡ x = cc in subst (λ u. AtOrAbove coarse_tree u.0 y.0) same (reflexive coarse_tree y.0);
  }

  up_noted_by : IsRooted tree → (n : ℕ) (new : List (Option AffinityId)) → IsCarried tree coarse_tree old n new
      → (o : Option ℕ) → parent_of tree n ≡ o → IsLowestNoted coarse_tree (IsNotedUp n) (option_and_then (λ p. get_or new p None) o)
  up_noted_by rooted n new h None is = λ x up. let some : parent_of tree n ≡ Some up.0 = up.1 in absurd (cc)
  up_noted_by rooted n new h (Some p) is =
      noted_same coarse_tree (IsNotedAbove tree old p) (IsNotedUp n) (get_or new p None)
      (λ x above. (p, is, above))
      (λ x up. let same : up.0 ≡ p = let some : parent_of tree n ≡ Some up.0 = up.1 in cc in subst (λ q. IsNotedAbove tree old q x) same up.2)
      (h.before p (rooted.earlier n p is))

  -- what is noted at the parent is the lowest of what was noted above
  pub up_noted : IsRooted tree → (n : ℕ) (new : List (Option AffinityId)) → IsCarried tree coarse_tree old n new
      → IsLowestNoted coarse_tree (IsNotedUp n) (above_of tree new n)
  up_noted rooted n new h = up_noted_by rooted n new h (parent_of tree n) refl

  -- nothing is noted at the parent
  pub carried_alone : IsRooted tree → (n : ℕ) (new : List (Option AffinityId)) → above_of tree new n ≡ None
      → IsCarried tree coarse_tree old n new → IsCarried tree coarse_tree old (n + 1) new
  carried_alone rooted n new none h =
      let no_up : IsLowestNoted coarse_tree (IsNotedUp n) None = subst (λ x. IsLowestNoted coarse_tree (IsNotedUp n) x) none (up_noted rooted n new h) in
      record {
        before = λ b below. elim (cases_eq b n) [
          | inl last ↦ rw (last, h.after n (omega arith))
              (noted_same coarse_tree (λ x. get_or old n None ≡ Some x) (IsNotedAbove tree old n) (get_or old n None)
              (λ x own. noted_join n x (inl own))
              (λ x above. elim (noted_split n x above) [ inl own ↦ own | inr up ↦ absurd (no_up x up) ])
              (own_noted (get_or old n None)))
          | inr other ↦ h.before b (omega arith)
        ];
        after = λ b later. h.after b (omega arith);
      }

  -- the lower of what is noted and what is noted at the parent is noted
  pub carried_more : IsRooted tree → (n : ℕ) (new : List (Option AffinityId)) (above low : AffinityId) → n < length new
      → above_of tree new n ≡ Some above → IsLower coarse_tree (get_or new n None) above low
      → IsCarried tree coarse_tree old n new → IsCarried tree coarse_tree old (n + 1) (set new n (Some low))
  carried_more rooted n new above low within is lower h =
      let Own : AffinityId → Type 0 = λ x. get_or old n None ≡ Some x in
      let kept : get_or new n None ≡ get_or old n None = h.after n (omega arith) in
      let up : IsLowestOf coarse_tree (IsNotedUp n) above = noted_is coarse_tree (IsNotedUp n) (above_of tree new n) above is (up_noted rooted n new h) in
      let both : IsLowestNoted coarse_tree (λ x. Own x ⊎ IsNotedUp n x) (Some low)
      = noted_either coarse_tree Own (IsNotedUp n) (get_or old n None) above low (own_noted (get_or old n None)) up
      (subst (λ x. IsLower coarse_tree x above low) kept lower) in
      record {
        before = λ b below. elim (cases_eq b n) [
          | inl last ↦ rw (last, get_or-set_same new n (Some low) None within)
              (noted_same coarse_tree (λ x. Own x ⊎ IsNotedUp n x) (IsNotedAbove tree old n) (Some low) (λ x either. noted_join n x either) (λ x all. noted_split n x all) both)
          | inr other ↦ rw (get_or-set_other new n b (Some low) None other) (h.before b (omega arith))
        ];
        after = λ b later. get_or-set_other new n b (Some low) None (omega arith) ∙ h.after b (omega arith);
      }

  -- what is noted and what is noted at the parent are apart
  pub carried_apart : IsRooted tree → (n : ℕ) (new : List (Option AffinityId)) (above : AffinityId) → above_of tree new n ≡ Some above
      → IsApart coarse_tree (get_or new n None) above → IsCarried tree coarse_tree old n new → Agree tree coarse_tree old → ⊥
  carried_apart rooted n new above is (own, noted, apart) h agree =
      let up = noted_up n above (noted_is coarse_tree (IsNotedUp n) (above_of tree new n) above is (up_noted rooted n new h)).one in
      apart (excludes_sym coarse_tree above.0 own.0 (agree up.place n above own up.above up.noted (sym (h.after n (omega arith)) ∙ noted)))

  -- what is carried to all has something in common
  pub carried_all : (n : ℕ) (new : List (Option AffinityId)) → length old ≡ n → IsCarried tree coarse_tree old n new
      → Agree tree coarse_tree old
  carried_all n new count h a b x y above noted_a noted_b = elim (cases_lt b n) [
    | inl within ↦
        let all = noted_some coarse_tree (IsNotedAbove tree old b) (get_or new b None) x
        (record { place = a; above = above; noted = noted_a }) (h.before b within) in
        comparable coarse_tree x.0 y.0 all.0.0
        (all.2.each x (record { place = a; above = above; noted = noted_a }))
        (all.2.each y (record { place = b; above = reflexive tree b; noted = noted_b }))
    | inr past ↦ let none : get_or old b None ≡ None = get_or_past old b None (omega arith) in absurd (cc)
  ]

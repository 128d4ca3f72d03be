-- Places: what is at or above what, and which messages exclude each other by what they hold.
use Rattle.std.proofs.Common.{◌≡◌, ◌≢◌, ℕ, ◌<◌, ◌⊎◌, inl, inr, List, length, Option, Some, None, true, get_or, refl, sym, ◌∙◌, ap, subst}
use Rattle.std.proofs.lemmas.List.Elements.{Contains-get_or}
use Rattle.waff_model.specs.Tree.{Node, AtOrAbove, IsTree}
use Rattle.waff_model.proofs.TreeLemmas.{reflexive, transitive, comparable, above_root}
use Rattle.waff_assign.proofs.Climbs.{root_above}
use Rattle.waff_assign.proofs.Holding.{exclude_sym, uses_alone_or_shared, uses_alone_uses, uses_shared_uses}
use Rattle.waff_assign.specs.Held.{ExcludeEachOther, Held, IsHeldWithin, UsesAlone, UsesLock}
use Rattle.waff_assign.specs.Order.{affinity_of, held_of}
use Rattle.waff_assign.specs.declared.held.LockUse.{LockUse}
use Rattle.waff_order.specs.Open.{Holds, IsOver, Place, affinity, below, lock}

module _ (tree : List Node) where
  -- the root alone is at or above itself
  pub over_root : IsTree tree → (a : ℕ) → AtOrAbove tree a 0 → a ≡ 0
  over_root is_tree a above = above_root tree a 0 is_tree.rooted.root above

  at_root : IsTree tree → (a b : ℕ) → AtOrAbove tree a b → b ≡ 0 → a ≡ 0
  at_root is_tree a b above is = over_root is_tree a (subst (λ x. AtOrAbove tree a x) is above)

  pub over_transitive : IsTree tree → (p q r : Place) → IsOver tree p q → IsOver tree q r → IsOver tree p r
  over_transitive is_tree (affinity a) (affinity b) (affinity c) first second = transitive tree a b c first second
  over_transitive is_tree (affinity a) (affinity b) (lock l) first second = at_root is_tree a b first second
  over_transitive is_tree (affinity a) (affinity b) (below l m) first second = at_root is_tree a b first second
  over_transitive is_tree (affinity a) (lock l) (affinity c) first second = absurd second
  over_transitive is_tree (affinity a) (lock l) (lock k) first second = first
  over_transitive is_tree (affinity a) (lock l) (below k m) first second = first
  over_transitive is_tree (affinity a) (below l m) (affinity c) first second = absurd second
  over_transitive is_tree (affinity a) (below l m) (lock k) first second = absurd second
  over_transitive is_tree (affinity a) (below l m) (below k n) first second = first
  over_transitive is_tree (lock l) (affinity b) r first second = absurd first
  over_transitive is_tree (lock l) (lock k) (affinity c) first second = absurd second
  over_transitive is_tree (lock l) (lock k) (lock j) first second = first ∙ second
  over_transitive is_tree (lock l) (lock k) (below j m) first second = first ∙ second
  over_transitive is_tree (lock l) (below k m) (affinity c) first second = absurd second
  over_transitive is_tree (lock l) (below k m) (lock j) first second = absurd second
  over_transitive is_tree (lock l) (below k m) (below j n) first second = first ∙ second.0
  over_transitive is_tree (below l m) (affinity b) r first second = absurd first
  over_transitive is_tree (below l m) (lock k) r first second = absurd first
  over_transitive is_tree (below l m) (below k n) (affinity c) first second = absurd second
  over_transitive is_tree (below l m) (below k n) (lock j) first second = absurd second
  over_transitive is_tree (below l m) (below k n) (below j o) first second = (first.0 ∙ second.0, first.1 ∙ second.1)

  roots : (a b : ℕ) → a ≡ 0 → b ≡ 0 → IsOver tree (affinity a) (affinity b) ⊎ IsOver tree (affinity b) (affinity a)
  roots a b first second = inl (subst (λ x. AtOrAbove tree a x) (first ∙ sym second) (reflexive tree a))

  -- two places over one are one over the other
  pub over_comparable : (p q r : Place) → IsOver tree p r → IsOver tree q r → IsOver tree p q ⊎ IsOver tree q p
  over_comparable (affinity a) (affinity b) (affinity c) first second = comparable tree a b c first second
  over_comparable (affinity a) (lock k) (affinity c) first second = absurd second
  over_comparable (affinity a) (below k m) (affinity c) first second = absurd second
  over_comparable (lock l) q (affinity c) first second = absurd first
  over_comparable (below l m) q (affinity c) first second = absurd first
  over_comparable (affinity a) (affinity b) (lock l) first second = roots a b first second
  over_comparable (affinity a) (lock k) (lock l) first second = inl first
  over_comparable (affinity a) (below k m) (lock l) first second = absurd second
  over_comparable (lock k) (affinity b) (lock l) first second = inr second
  over_comparable (lock k) (lock j) (lock l) first second = inl (first ∙ sym second)
  over_comparable (lock k) (below j m) (lock l) first second = absurd second
  over_comparable (below k m) q (lock l) first second = absurd first
  over_comparable (affinity a) (affinity b) (below l n) first second = roots a b first second
  over_comparable (affinity a) (lock k) (below l n) first second = inl first
  over_comparable (affinity a) (below k m) (below l n) first second = inl first
  over_comparable (lock k) (affinity b) (below l n) first second = inr second
  over_comparable (lock k) (lock j) (below l n) first second = inl (first ∙ sym second)
  over_comparable (lock k) (below j m) (below l n) first second = inl (first ∙ sym second.0)
  over_comparable (below k m) (affinity b) (below l n) first second = inr second
  over_comparable (below k m) (lock j) (below l n) first second = inr (second ∙ sym first.0)
  over_comparable (below k m) (below j o) (below l n) first second = inl (first.0 ∙ sym second.0, first.1 ∙ sym second.1)

module _ (tree : List Node) (is_tree : IsTree tree) (assigned : List Held) where
  -- at a lock that a message uses it holds a place that is the lock or below it
  pub use_held : (i l : ℕ) → UsesLock (held_of assigned i) l → (p : Place) × Holds assigned i p × IsOver tree (lock l) p
  use_held i l used = elim (uses_alone_or_shared (held_of assigned i) l used) [
    | inl alone ↦ (lock l, alone, refl)
    | inr shared ↦ (below l i, (refl, shared), refl)
  ]

  -- a message holds some place
  pub some_held : (i : ℕ) → IsHeldWithin (length tree) (held_of assigned i) → (p : Place) × Holds assigned i p
  some_held i known = by (affinity_of assigned i) refl
    where
      by : (o : Option ℕ) → affinity_of assigned i ≡ o → (p : Place) × Holds assigned i p
      by (Some a) is = (affinity a, is)
      by None none =
          let some : 0 < length (held_of assigned i).uses = known.some none in
          let u : LockUse = get_or (held_of assigned i).uses 0 (record { lock = 0; alone = true }) in
          let used : UsesLock (held_of assigned i) u.lock = (u, Contains-get_or (held_of assigned i).uses 0 (record { lock = 0; alone = true }) some, refl) in
          let there = use_held i u.lock used in
          (there.0, there.1)

  -- the root is over each place that is held
  pub root_over : (i : ℕ) → IsHeldWithin (length tree) (held_of assigned i) → (p : Place) → Holds assigned i p → IsOver tree (affinity 0) p
  root_over i known (affinity a) holds = root_above tree is_tree a (known.affinity a holds)
  root_over i known (lock l) holds = refl
  root_over i known (below l m) holds = refl

  -- messages that exclude each other hold places one of which is over the other
  pub excludes_at : (i j : ℕ) → IsHeldWithin (length tree) (held_of assigned i) → IsHeldWithin (length tree) (held_of assigned j)
      → ExcludeEachOther tree (held_of assigned i) (held_of assigned j)
      → (p q : Place) × Holds assigned i p × Holds assigned j q × (IsOver tree p q ⊎ IsOver tree q p)
  excludes_at i j known_i known_j h = elim h [
    | inl (a, b, is_a, is_b, excludes) ↦ (affinity a, affinity b, is_a, is_b, excludes)
    | inr (inl (inl root)) ↦
        let other = some_held j known_j in
        (affinity 0, other.0, root, other.1, inl (root_over j known_j other.0 other.1))
    | inr (inl (inr root)) ↦
        let other = some_held i known_i in
        (other.0, affinity 0, other.1, root, inr (root_over i known_i other.0 other.1))
    | inr (inr (l, inl both)) ↦
        let other = use_held j l both.1 in
        (lock l, other.0, both.0, other.1, inl other.2)
    | inr (inr (l, inr both)) ↦
        let other = use_held i l both.0 in
        (other.0, lock l, other.1, both.1, inr other.2)
  ]

  use_as : (held : Held) (l k : ℕ) → l ≡ k → UsesAlone held l → UsesAlone held k
  use_as held l k same h = subst (λ x. UsesAlone held x) same h

  -- and the other way round
  pub over_excludes : (i j : ℕ) → i ≢ j → (p q : Place) → Holds assigned i p → Holds assigned j q → IsOver tree p q
      → ExcludeEachOther tree (held_of assigned i) (held_of assigned j)
  over_excludes i j other (affinity a) (affinity b) one two over = inl (a, b, one, two, inl over)
  over_excludes i j other (affinity a) (lock l) one two over = inr (inl (inl (one ∙ ap Some over)))
  over_excludes i j other (affinity a) (below l m) one two over = inr (inl (inl (one ∙ ap Some over)))
  over_excludes i j other (lock l) (affinity b) one two over = absurd over
  over_excludes i j other (lock l) (lock k) one two over =
      inr (inr (k, inl (use_as (held_of assigned i) l k over one, uses_alone_uses (held_of assigned j) k two)))
  over_excludes i j other (lock l) (below k m) one two over =
      inr (inr (k, inl (use_as (held_of assigned i) l k over one, uses_shared_uses (held_of assigned j) k two.1)))
  over_excludes i j other (below l m) (affinity b) one two over = absurd over
  over_excludes i j other (below l m) (lock k) one two over = absurd over
  over_excludes i j other (below l m) (below k n) one two over = absurd (other (one.0 ∙ over.1 ∙ sym two.0))

  pub comparable_excludes : (i j : ℕ) → i ≢ j → (p q : Place) → Holds assigned i p → Holds assigned j q → IsOver tree p q ⊎ IsOver tree q p
      → ExcludeEachOther tree (held_of assigned i) (held_of assigned j)
  comparable_excludes i j other p q one two over = elim over [
    | inl up ↦ over_excludes i j other p q one two up
    | inr down ↦ exclude_sym tree (held_of assigned j) (held_of assigned i) (over_excludes j i (λ same. other (sym same)) q p two one down)
  ]

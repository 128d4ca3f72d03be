use Rattle.std.proofs.Common.{◌≡◌, ℕ, ◌∷◌, ◌<◌, ◌≤◌, ◌⊎◌, [], List, map, All, sym, ◌∙◌, ap, subst, rules}
use Rattle.std.specs.BinaryHeap.{heap_items}
use Rattle.std.specs.List.Sorted.{IsPermutation}
use Rattle.std.specs.declared.cmp.Reverse.{Reverse}
use Rattle.std.proofs.lemmas.List.{nil_from_length}
use Rattle.std.proofs.lemmas.List.Elements.{All-map, All-weaker, All-from_recursion, All-contains}
use Rattle.std.proofs.lemmas.List.Sorted.{IsPermutation-map}
use Rattle.waff_waits.proofs.OrderingLemmas.{not_less_ranked}
use Rattle.waff_waits.proofs.ready.Ready.pop.Goals as goal
use Rattle.waff_waits.proofs.ready.Ready.pop.Goals.{in-Some, in-None}

abbrev ranked : ℕ × Reverse (ℕ × ℕ) → ℕ × (ℕ × ℕ)
ranked r = (r.0, r.1.0)

-- r is taken no later than s
abbrev IsNoLater : ℕ × (ℕ × ℕ) → ℕ × (ℕ × ℕ) → Type 0
IsNoLater r s = (s.0 < r.0) ⊎ ((r.0 ≡ s.0) × ((r.1.0 < s.1.0) ⊎ ((r.1.0 ≡ s.1.0) × (r.1.1 ≤ s.1.1))))

pub returns : goal.returns
returns c = elim c.match-pop.branch [
  | in-Some w ↦
      let old = c.args.self.now in
      let new = heap_items c.pop.new.self in
      let top : ℕ × (ℕ × ℕ) = (w.in-Some.priority, w.in-Some.field-0-1.0) in
      let rest : List (ℕ × (ℕ × ℕ)) = map ranked new in
      let popped : IsPermutation old (top ∷ rest) = subst (λ (xs : List (ℕ × (ℕ × ℕ))). IsPermutation xs (top ∷ rest)) c.self.view_is
      (IsPermutation-map ranked _ _ w.in-Some.ensures.permutation) in
      let above = All-from_recursion _ new (w.in-Some.ensures.below_top c.self.invariant) in
      let least : All (IsNoLater top) rest = All-map (IsNoLater top) ranked new
      (All-weaker _ (λ (r : ℕ × Reverse (ℕ × ℕ)). IsNoLater top (ranked r)) (λ r h. not_less_ranked top (ranked r) h) new above) in
      rw w.result-is (record { rest = popped; first = λ s there. All-contains (IsNoLater top) rest s least there })
  | in-None w ↦
      let none : heap_items c.self.inside.heap ≡ [] = search (rules, nil_from_length) in
      let empty : c.args.self.now ≡ [] = sym c.self.view_is ∙ ap (λ xs. map ranked xs) none in
      rw w.result-is (empty, ap (λ xs. map ranked xs) w.in-None.ensures.unchanged.0 ∙ c.self.view_is)
]

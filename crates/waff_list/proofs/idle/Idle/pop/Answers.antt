use Rattle.std.proofs.Common.{◌≡◌, ℕ, ◌≤◌, [], map, All, sym, ◌∙◌, ap, subst, rules}
use Rattle.std.specs.BinaryHeap.{heap_items}
use Rattle.std.specs.declared.cmp.Reverse.{Reverse}
use Rattle.std.proofs.lemmas.List.{nil_from_length}
use Rattle.std.proofs.lemmas.List.Elements.{All-map, All-weaker, All-from_recursion, All-contains}
use Rattle.std.proofs.lemmas.List.Sorted.{IsPermutation-map}
use Rattle.waff_list.specs.Waiting.{LeavesLeast}
use Rattle.waff_waits.proofs.OrderingLemmas.{not_less}
use Rattle.waff_list.proofs.idle.Idle.pop.Goals as goal
use Rattle.waff_list.proofs.idle.Idle.pop.Goals.{in-Some, in-None}

pub returns : goal.returns
returns c = elim c.match-pop.branch [
  | in-Some w ↦
      let m = w.in-Some.field-0.0 in
      let new = heap_items c.pop.new.self in
      let above = All-from_recursion _ new (w.in-Some.ensures.below_top c.self.invariant) in
      let least : All (λ (r : Reverse ℕ). m ≤ r.0) new = All-weaker _ (λ (r : Reverse ℕ). m ≤ r.0) (λ r h. not_less r.0 m h) new above in
      rw w.result-is
      (subst (λ xs. LeavesLeast xs m (map (λ (r : Reverse ℕ). r.0) new)) c.self.view_is
      (record {
        rest = (IsPermutation-map (λ (r : Reverse ℕ). r.0) _ _ w.in-Some.ensures.permutation);
        least = λ x there. All-contains (λ y. m ≤ y) (map (λ (r : Reverse ℕ). r.0) new) x (All-map (λ y. m ≤ y) (λ (r : Reverse ℕ). r.0) new least) there;
      }))
  | in-None w ↦
      let none : heap_items c.self.inside.heap ≡ [] = search (rules, nil_from_length) in
      rw w.result-is (
        sym c.self.view_is ∙ ap (λ xs. map (λ (r : Reverse ℕ). r.0) xs) none,
        ap (λ xs. map (λ (r : Reverse ℕ). r.0) xs) (w.in-None.ensures.unchanged.0 ∙ none),
      )
]

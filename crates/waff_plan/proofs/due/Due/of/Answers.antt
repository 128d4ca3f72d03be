use Rattle.std.proofs.Common.{◌≡◌, ℕ, ◌+◌, ◌++◌, List, map, get_or, sym, ◌∙◌, ap, subst, arith, rules}
use Rattle.std.specs.BinaryHeap.{heap_items}
use Rattle.std.specs.List.Sorted.{IsPermutation}
use Rattle.std.specs.declared.cmp.Reverse.{Reverse}
use Rattle.std.proofs.lemmas.List.{append-nil}
use Rattle.std.proofs.lemmas.List.Sorted.{IsPermutation-map}
use Rattle.waff_plan.proofs.DueLemmas.{due_sorted, not_later}
use Rattle.waff_plan.proofs.due.Due.of.Goals as goal

pub invariant_of-result : goal.invariant_of-result
invariant_of-result c =
    let xs = c.sort_unstable.new.self.items in (
      due_sorted (λ (r : Reverse (ℕ × ℕ)). r.0) xs (λ k d within. not_later (get_or xs (k + 1) d).0 (get_or xs k d).0 (c.sort_unstable.ensures.sorted k d (omega arith) within)),
      search rules,
    )

pub returns : goal.returns
returns c =
    let xs = c.sort_unstable.new.self.items in
    let all : xs ++ heap_items c.new.result ≡ xs = ap (λ h. xs ++ h) c.new.ensures.items ∙ append-nil xs in
    subst (λ (ys : List (Reverse (ℕ × ℕ))). IsPermutation (map (λ (r : Reverse (ℕ × ℕ)). r.0) c.args.messages.items) (map (λ (r : Reverse (ℕ × ℕ)). r.0) ys)) (sym all)
    (IsPermutation-map (λ (r : Reverse (ℕ × ℕ)). r.0) _ _ c.sort_unstable.ensures.permutation)

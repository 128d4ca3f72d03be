use Rattle.std.proofs.Common.{ℕ, List, ◌∷◌, map, ◌++◌, subst}
use Rattle.std.specs.BinaryHeap.{heap_items}
use Rattle.std.specs.List.Sorted.{IsPermutation}
use Rattle.std.specs.declared.cmp.Reverse.{Reverse}
use Rattle.waff_plan.proofs.DueLemmas.{due_pushed}
use Rattle.waff_plan.proofs.due.Due.push.Goals as goal

pub returns : goal.returns
returns c =
    let sorted = c.self.inside.sorted.items in
    let new = heap_items c.push.new.self in
    subst (λ (xs : List (ℕ × ℕ)). IsPermutation ((c.args.tick, c.args.message) ∷ xs) (map (λ (r : Reverse (ℕ × ℕ)). r.0) (sorted ++ new))) c.self.view_is
    (due_pushed (λ (r : Reverse (ℕ × ℕ)). r.0) _ sorted (heap_items c.self.inside.heap) new c.in_ok-push.ensures.permutation)

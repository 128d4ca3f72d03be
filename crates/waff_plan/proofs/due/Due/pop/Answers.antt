use Rattle.std.proofs.Common.{◌≡◌, ◌-◌, ◌<◌, ℕ, Some, IfNone, get_or, vec_len, [], ◌++◌, List, length, map, MatchOption, option_copied, option_map, arith, sym, ◌∙◌, subst}
use Rattle.std.specs.BinaryHeap.{heap_items, heap_len}
use Rattle.std.specs.List.{slice_get}
use Rattle.std.specs.declared.cmp.Reverse.{Reverse}
use Rattle.waff_plan.specs.Due.{LeavesDue}
use Rattle.waff_plan.proofs.DueLemmas.{first_here, first_there, last_is_first, leaves_sorted, leaves_top, top_is_first}
use Rattle.waff_plan.proofs.due.Due.pop.Goals as goal

pub returns-then-is_first : goal.returns-then-is_first
returns-then-is_first c =
    let pair = λ (r : Reverse (ℕ × ℕ)). r.0 in
    let sorted = c.self.inside.sorted.items in
    let heap = heap_items c.self.inside.heap in
    let value = subst (λ (xs : List (Reverse (ℕ × ℕ))). option_copied c.last.result ≡ slice_get xs (length xs - 1)) c.deref.ensures.value c.last.ensures.value in
    let last = last_is_first pair sorted c.last.result c.self.invariant.0 value in
    let top = top_is_first pair c.self.invariant.1 heap c.peek.result c.peek.ensures.item c.peek.ensures.greatest in
    let first = first_here pair sorted heap c.last.result c.peek.result c.is_first.result last top c.is_first.ensures c.if-is_first.true in
    let new = c.pop.new.self.items in
    let long : vec_len c.self.inside.sorted ≡ length sorted = omega (arith, c.self.inside.sorted.ok.0) in
    let popped = subst (λ (n : ℕ). (d : Reverse (ℕ × ℕ)) → 0 < n → c.pop.result ≡ Some (get_or sorted (n - 1) d)) long c.pop.ensures.value in
    rw c.pair_of.ensures (subst (λ (old : List (ℕ × ℕ)). MatchOption (option_map pair c.pop.result) ((old ≡ []) × (map pair (new ++ heap) ≡ old)) (λ r. LeavesDue old r (map pair (new ++ heap))))
    c.self.view_is (leaves_sorted pair sorted new heap first.0 c.pop.result c.self.invariant.0 (sym value ∙ first.1) popped c.pop.ensures.items first.2))

pub returns : goal.returns
returns c =
    let pair = λ (r : Reverse (ℕ × ℕ)). r.0 in
    let sorted = c.self.inside.sorted.items in
    let heap = heap_items c.self.inside.heap in
    let value = subst (λ (xs : List (Reverse (ℕ × ℕ))). option_copied c.last.result ≡ slice_get xs (length xs - 1)) c.deref.ensures.value c.last.ensures.value in
    let last = last_is_first pair sorted c.last.result c.self.invariant.0 value in
    let top = top_is_first pair c.self.invariant.1 heap c.peek.result c.peek.ensures.item c.peek.ensures.greatest in
    let there = first_there pair sorted heap c.last.result c.peek.result c.is_first.result last top c.is_first.ensures c.if-is_first.false in
    let new = heap_items c.pop-2.new.self in
    let long : heap_len c.self.inside.heap ≡ length heap = omega (arith, c.self.inside.heap.data.ok.0) in
    let none = subst (λ (n : ℕ). IfNone c.pop-2.result (n ≡ 0)) long c.pop-2.ensures.none in
    rw c.pair_of-2.ensures (subst (λ (old : List (ℕ × ℕ)). MatchOption (option_map pair c.pop-2.result) ((old ≡ []) × (map pair (sorted ++ new) ≡ old)) (λ r. LeavesDue old r (map pair (sorted ++ new))))
    c.self.view_is (leaves_top pair _ _ _ c.self.invariant.1 sorted heap new c.pop-2.result there c.pop-2.ensures.permutation c.pop-2.ensures.heap_order none c.pop-2.ensures.unchanged))

use Rattle.std.proofs.Common.{◌≡◌, ℕ, ◌≤◌, ◌⊎◌, ◌-◌, List, length, option_copied, All, Contains, min, subst}
use Rattle.std.specs.BinaryHeap.{heap_items}
use Rattle.std.specs.List.{slice_get}
use Rattle.std.specs.declared.cmp.Reverse.{Reverse}
use Rattle.waff_plan.specs.declared.due.TheConstants.{NEVER}
use Rattle.waff_plan.proofs.DueLemmas.{last_is_first, least_of, one_of, tick_least, tick_one, top_is_first}
use Rattle.waff_plan.proofs.due.Due.next.Goals as goal

pub returns : goal.returns
returns c =
    let pair = λ (r : Reverse (ℕ × ℕ)). r.0 in
    let sorted = c.self.inside.sorted.items in
    let heap = heap_items c.self.inside.heap in
    let value = subst (λ (xs : List (Reverse (ℕ × ℕ))). option_copied c.last.result ≡ slice_get xs (length xs - 1)) c.deref.ensures.value c.last.ensures.value in
    let last = last_is_first pair sorted c.last.result c.self.invariant.0 value in
    let top = top_is_first pair c.self.invariant.1 heap c.peek.result c.peek.ensures.item c.peek.ensures.greatest in
    let s = c.tick_of.result in
    let t = c.tick_of-2.result in
    rw c.min.ensures (record {
      least = subst (λ (xs : List (ℕ × ℕ)). All (λ r. min s t ≤ r.0) xs) c.self.view_is
          (least_of pair sorted heap s t (tick_least pair sorted c.last.result s last c.tick_of.ensures) (tick_least pair heap c.peek.result t top c.tick_of-2.ensures));
      one = subst (λ (xs : List (ℕ × ℕ)). (min s t ≡ NEVER) ⊎ ((m : ℕ) × Contains xs (min s t, m))) c.self.view_is
          (one_of pair sorted heap s t (tick_one pair sorted c.last.result s last c.tick_of.ensures) (tick_one pair heap c.peek.result t top c.tick_of-2.ensures));
    })

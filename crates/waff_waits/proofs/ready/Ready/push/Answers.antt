use Rattle.std.proofs.Common.{ℕ, List, ◌∷◌, map, subst}
use Rattle.std.specs.BinaryHeap.{heap_items}
use Rattle.std.specs.List.Sorted.{IsPermutation}
use Rattle.std.specs.declared.cmp.Reverse.{Reverse}
use Rattle.std.proofs.lemmas.List.Sorted.{IsPermutation-map}
use Rattle.waff_waits.proofs.ready.Ready.push.Goals as goal

-- a message with its priority and its issue
abbrev ranked : ℕ × Reverse (ℕ × ℕ) → ℕ × (ℕ × ℕ)
ranked r = (r.0, r.1.0)

pub returns : goal.returns
returns c =
    subst (λ (xs : List (ℕ × (ℕ × ℕ))). IsPermutation ((c.args.priority, (c.args.key, c.args.m)) ∷ xs) (map ranked (heap_items c.push.new.self))) c.self.view_is
    (IsPermutation-map ranked _ _ c.in_ok-push.ensures.permutation)

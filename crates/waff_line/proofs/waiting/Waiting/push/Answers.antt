use Rattle.std.proofs.Common.{ℕ, ◌∷◌}
use Rattle.std.specs.BinaryHeap.{heap_items}
use Rattle.std.specs.declared.cmp.Reverse.{Reverse}
use Rattle.std.proofs.lemmas.List.Sorted.{IsPermutation-map}
use Rattle.waff_line.proofs.waiting.Waiting.push.Goals as goal

pub returns-clause-ready : goal.returns-clause-ready
returns-clause-ready c =
    IsPermutation-map (λ (r : Reverse (ℕ × ℕ)). r.0.1) ((record { 0 = (c.place-place.result, c.args.m) }) ∷ heap_items c.args.self.now.ready) (heap_items c.push.new.self)
    c.in_ok-push.ensures.permutation

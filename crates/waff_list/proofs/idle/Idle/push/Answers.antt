use Rattle.std.proofs.Common.{◌∷◌, map, subst}
use Rattle.std.specs.BinaryHeap.{heap_items}
use Rattle.std.specs.List.Sorted.{IsPermutation}
use Rattle.std.proofs.lemmas.List.Sorted.{IsPermutation-map}
use Rattle.waff_list.proofs.idle.Idle.push.Goals as goal

pub returns : goal.returns
returns c =
    subst (λ xs. IsPermutation (c.args.worker ∷ xs) (map (λ (r : _). r.0) (heap_items c.push.new.self))) c.self.view_is
    (IsPermutation-map (λ (r : _). r.0) _ _ c.in_ok-push.ensures.permutation)

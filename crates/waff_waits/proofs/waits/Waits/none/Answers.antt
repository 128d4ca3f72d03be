use Rattle.std.proofs.Common.{replicate, false, ap}
use Rattle.std.proofs.lemmas.List.{length-replicate}
use Rattle.waff_waits.proofs.Counting.{counted_none}
use Rattle.waff_waits.proofs.TrailLemmas.{trails_none}
use Rattle.waff_waits.proofs.waits.Waits.none.Goals as goal

pub invariant_of-result : goal.invariant_of-result
invariant_of-result c =
    let count = c.args.count in
    rw (
      c.in_ok-vec.ensures.items_if_clones_equal (λ y is. is),
      c.in_ok-with_capacity.ensures.items,
      c.in_ok-vec-2.ensures.items_if_clones_equal (λ y is. is),
      c.in_ok-vec-3.ensures.items_if_clones_equal (λ y is. is),
    ) (counted_none count (replicate count false) (length-replicate count false))

pub returns : goal.returns
returns c =
    let count = c.args.count in
    rw (
      c.in_ok-vec.ensures.items_if_clones_equal (λ y is. is),
      c.in_ok-with_capacity.ensures.items,
      c.in_ok-vec-3.ensures.items_if_clones_equal (λ y is. is),
    ) (ap (λ xs. record { awaited = xs; finished = replicate count false }) (trails_none count))

use Rattle.std.proofs.Common.{ap, ◌∙◌}
use Rattle.std.proofs.lemmas.List.{length-replicate}
use Rattle.std.proofs.Common.{length}
use Rattle.waff_line.proofs.Noting.{none_noted, none_shown}
use Rattle.waff_line.proofs.notes.Notes.none.Goals as goal

pub invariant_of-result : goal.invariant_of-result
invariant_of-result c =
    none_noted c.args.count c.args.workers c.in_ok-vec.field-0.items c.in_ok-vec-2.field-0.items c.none.result c.none.ensures
    (c.in_ok-vec.ensures.items_if_clones_equal (λ y is. is)) (c.in_ok-vec-2.ensures.items_if_clones_equal (λ y is. is))

pub returns : goal.returns
returns c =
    none_shown c.args.count c.args.workers c.in_ok-vec.field-0.items c.in_ok-vec-2.field-0.items c.none.result c.none.ensures
    (c.in_ok-vec.ensures.items_if_clones_equal (λ y is. is))
    (ap length (c.in_ok-vec-2.ensures.items_if_clones_equal (λ y is. is)) ∙ length-replicate c.args.workers 0)

use Rattle.std.proofs.Common.{◌++◌, map, ◌∙◌, ap}
use Rattle.waff_model.specs.Cells.{cells_of_op}
use Rattle.waff_run.specs.Places.{spot_of}
use Rattle.waff_run.proofs.Listing.{made_more}
use Rattle.waff_run.proofs.spots.push_spots.Goals as goal

pub loop-at-preserved : goal.loop-at-preserved
loop-at-preserved c =
    let f = spot_of c.args.places.now in
    c.in_ok-push_spots_of_op.ensures
    ∙ ap (λ spots. spots ++ map f (cells_of_op c.get.result)) c.loop-at.invariant
    ∙ made_more f cells_of_op c.args.spots.now.items c.args.ops.now c.loop-at.at c.get.result c.get.ensures

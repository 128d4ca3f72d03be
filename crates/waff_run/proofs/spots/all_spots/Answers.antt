use Rattle.std.proofs.Common.{◌-◌, ◌++◌, map, take, sym, ◌∙◌, ap, arith}
use Rattle.std.proofs.lemmas.List.{map-append, take_all}
use Rattle.waff_model.specs.Cells.{cells_of}
use Rattle.waff_run.specs.Named.{cells_named}
use Rattle.waff_run.specs.Places.{spot_of}
use Rattle.waff_run.proofs.Listing.{named_more}
use Rattle.waff_run.proofs.spots.all_spots.Goals as goal

pub loop-m-preserved : goal.loop-m-preserved
loop-m-preserved c =
    let f = spot_of c.args.places.now in
    let messages = c.args.trace.now.messages in
    let message = c.message.result.now in
    let before = cells_named (take (c.loop-m.m - 1) messages) in
    c.in_ok-push_spots.ensures
    ∙ ap (λ spots. spots ++ map f (cells_of message.ops)) c.loop-m.invariant
    ∙ sym (map-append f before (cells_of message.ops))
    ∙ ap (map f) (named_more messages c.loop-m.m message (omega arith) c.message.ensures.message)

pub returns : goal.returns
returns c =
    c.loop-m.invariant
    ∙ ap (λ messages. map (spot_of c.args.places.now) (cells_named messages)) (take_all (c.loop-m.m - 1) c.args.trace.now.messages (omega arith))

use Rattle.std.proofs.Common.{◌≡◌, List, [], ◌∷◌, length, rules, sym, ◌∙◌, ap₂}
use Rattle.waff_model.specs.declared.op.Op.TheVariants as operation
use Rattle.waff_run.specs.Asked.{Access, AsksOp, GoesOn, GoesOnBy, was_read, was_written}
use Rattle.waff_run.specs.declared.places.Spot.{Spot}
use Rattle.waff_run.proofs.Asking.{four, goes_on_as, on_ok}
use Rattle.waff_run.proofs.perform.swap.Goals as goal

pub returns : goal.returns
returns g c =
    let placing = c.args.places.now in
    let one = c.read.new.bytes in
    let two = c.read-2.new.bytes in
    let long : length one ≡ length c.args.one.now = search rules in
    let other_long : length two ≡ length c.args.one.now = search rules in
    let first = c.spot-first.result in
    let second = c.spot-second.result in
    let log = g.S.Store.log in
    let asks = AsksOp placing (length c.args.one.now) (operation.Swap c.args.cell c.args.other) in
    let asked : Spot → Spot → List Access = λ s t. was_read s one ∷ was_read t two ∷ was_written s two ∷ was_written t one ∷ [] in
    on_ok (GoesOnBy (log c.write.new.hand) (log c.write-2.new.hand) (was_written second one)) (GoesOn (log c.args.hand.now) (log c.write-2.new.hand) asks)
    (λ last.
    goes_on_as (λ all. all ≡ asked first second) asks
    (λ all is. (one, two, long, other_long, is ∙ ap₂ asked c.spot-first.ensures.spot c.spot-second.ensures.spot))
    (log c.args.hand.now) (log c.write-2.new.hand)
    (four (log c.args.hand.now) (log c.read.new.hand) (log c.read-2.new.hand) (log c.write.new.hand) (log c.write-2.new.hand) (was_read first one)
    (was_read second two) (was_written first two) (was_written second one) c.in_ok-read.ensures c.in_ok-read-2.ensures c.in_ok-write.ensures last))
    c.write-2.result c.write-2.ensures

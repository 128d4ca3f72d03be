use Rattle.std.proofs.Common.{◌≡◌, [], ◌∷◌, ◌++◌, length, rules, ap₂}
use Rattle.waff_run.specs.Asked.{AsksOneBack, GoesOn, GoesOnBy, was_read, was_written}
use Rattle.waff_run.proofs.Asking.{goes_on, on_ok}
use Rattle.waff_run.proofs.perform.write_one_back.Goals as goal

pub returns : goal.returns
returns g c =
    let spots = c.args.spots.now in
    let spot = c.spot_at-spot.result in
    let bytes = c.read.new.bytes in
    let long : length bytes ≡ length c.args.bytes.now = search rules in
    let log = g.S.Store.log in
    let asks = AsksOneBack (length c.args.bytes.now) spots c.args.at in
    on_ok (GoesOnBy (log c.read.new.hand) (log c.write.new.hand) (was_written spot bytes)) (GoesOn (log c.args.hand.now) (log c.write.new.hand) asks)
    (λ last.
    goes_on (λ asked. asked ≡ was_read spot bytes ∷ []) (λ asked. asked ≡ was_written spot bytes ∷ []) asks
    (λ one other p q. (spot, bytes, c.spot_at-spot.ensures, long, ap₂ ◌++◌ p q)) (log c.args.hand.now) (log c.read.new.hand)
    (log c.write.new.hand) c.in_ok-read.ensures last)
    c.write.result c.write.ensures

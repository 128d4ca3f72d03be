use Rattle.std.proofs.Common.{length, map, refl}
use Rattle.waff_run.specs.Asked.{AsksBack, AsksFill, AsksSyncOf, GoesOn}
use Rattle.waff_run.specs.declared.places.Spot.{Spot}
use Rattle.waff_run.proofs.Asking.{goes_on, on_ok}
use Rattle.waff_run.proofs.perform.fill_by.Goals as goal

pub returns : goal.returns
returns g c =
    let long = length c.args.bytes.now in
    let spots = c.args.spots.now in
    let log = g.S.Store.log in
    let back = AsksBack long spots (length spots) in
    let synced = AsksSyncOf (map (λ (spot : Spot). spot.file) spots) in
    let asks = AsksFill long spots in
    on_ok (GoesOn (log c.write_back.new.hand) (log c.sync_spots.new.hand) synced) (GoesOn (log c.args.hand.now) (log c.sync_spots.new.hand) asks)
    (λ last.
    goes_on back synced asks (λ one other b s. record { back = one; syncs = other; done = b; synced = s; whole = refl }) (log c.args.hand.now)
    (log c.write_back.new.hand) (log c.sync_spots.new.hand) c.in_ok-write_back.ensures last)
    c.sync_spots.result c.sync_spots.ensures

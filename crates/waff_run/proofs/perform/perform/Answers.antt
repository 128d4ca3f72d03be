use Rattle.std.proofs.Common.{length}
use Rattle.waff_run.specs.Asked.{AsksCalls, AsksMessage, AsksSyncs, GoesOn}
use Rattle.waff_run.proofs.Asking.{goes_on, message_asks, on_ok}
use Rattle.waff_run.proofs.perform.perform.Goals as goal

pub returns : goal.returns
returns g c =
    let placing = c.args.places.now in
    let ops = c.args.ops.now in
    let log = g.S.Store.log in
    let synced = AsksSyncs placing c.args.syncs ops in
    let asks = AsksMessage placing c.args.syncs ops in
    on_ok (GoesOn (log c.do_calls.new.hand) (log c.sync.new.hand) synced) (GoesOn (log c.args.hand.now) (log c.sync.new.hand) asks)
    (λ last.
    goes_on (AsksCalls placing ops (length ops)) synced asks (message_asks placing c.args.syncs ops) (log c.args.hand.now) (log c.do_calls.new.hand)
    (log c.sync.new.hand) c.in_ok-do_calls.ensures last)
    c.sync.result c.sync.ensures

use Rattle.waff_run.specs.Asked.{AsksSyncs}
use Rattle.waff_run.proofs.Asking.{goes_nowhere, nothing_synced}
use Rattle.waff_run.proofs.perform.sync.Goals as goal

pub returns-in-None : goal.returns-in-None
returns-in-None g c =
    goes_nowhere (AsksSyncs c.args.places.now c.args.syncs c.args.ops.now) (nothing_synced c.args.places.now c.args.syncs c.args.ops.now c.in-None.is)
    (g.S.Store.log c.args.hand.now)

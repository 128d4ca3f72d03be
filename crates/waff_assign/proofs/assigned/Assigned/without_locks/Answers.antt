use Rattle.std.proofs.Common.{length, ap}
use Rattle.waff_assign.proofs.Helds.{no_uses_below}
use Rattle.waff_assign.proofs.assigned.Assigned.without_locks.Goals as goal

pub new-requires-3-clause-below : goal.new-requires-3-clause-below
new-requires-3-clause-below c = no_uses_below c.args.affinities.items c.new.result.items c.new-2.result.items 0 (ap length c.new.ensures.items)

use Rattle.std.proofs.Common.{arith}
use Rattle.waff_assign.proofs.Helds.{helds_count}
use Rattle.waff_assign.proofs.assigned.Assigned.len.Goals as goal

pub returns-clause-count : goal.returns-clause-count
returns-clause-count c =
    let inside = c.self.inside in
    rw (← c.self.view_is) (omega (arith, helds_count inside.affinities.items inside.uses.items inside.ends.items, c.self.invariant.0))

pub returns-clause-few : goal.returns-clause-few
returns-clause-few c =
    let inside = c.self.inside in
    rw (← c.self.view_is) (omega (arith, helds_count inside.affinities.items inside.uses.items inside.ends.items, c.self.invariant.0))

use Rattle.waff_assign.proofs.Helds.{helds_numbers}
use Rattle.waff_assign.proofs.assigned.Assigned.numbers.Goals as goal

pub returns : goal.returns
returns c =
    let inside = c.self.inside in
    let same = helds_numbers inside.affinities.items inside.uses.items inside.ends.items c.args.none in
    rw (← c.self.view_is, same, ← c.deref.ensures.value) c.numbers_or.ensures

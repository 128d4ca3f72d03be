use Rattle.waff_core.proofs.Arrival.{away_with_one, begins_at_home}
use Rattle.waff_core.proofs.laws.parcels_are_with_one.Goals as goal

pub returns-clause-away : goal.returns-clause-away
returns-clause-away c = away_with_one

pub returns-clause-home : goal.returns-clause-home
returns-clause-home c = begins_at_home

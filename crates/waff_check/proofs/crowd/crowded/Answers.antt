use Rattle.waff_check.proofs.crowd.crowded.Goals as goal

pub returns-in-Some : goal.returns-in-Some
returns-in-Some c = rw c.in-Some.is c.crowded_for.ensures

-- The first pair is that of the first place.
use Rattle.waff_check.proofs.OverlapLaws.{first-overlap, no-overlap}
use Rattle.waff_check.proofs.overlap.first_pair.Goals as goal

pub returns-in-None : goal.returns-in-None
returns-in-None g c = no-overlap c.args.planned.now c.args.kept c.requires.kept c.in-None.ensures.first

pub returns-in-Some-second_of : goal.returns-in-Some-second_of
returns-in-Some-second_of g c =
    first-overlap c.args.planned.now c.args.kept c.in-Some.place c.in-Some-second_of.second c.requires.kept c.in-Some.ensures.first c.in-Some-second_of.ensures

use Rattle.waff_run.proofs.Ending.{end_noted_at, ends_stay_at}
use Rattle.waff_run.proofs.spots.note_end.Goals as goal

pub returns-then-ends-spot : goal.returns-then-ends-spot
returns-then-ends-spot c = λ cells are.
    end_noted_at c.args.places.now cells c.args.cell c.spot-spot.result c.bytes.result c.spot-spot.ensures.spot c.bytes.ensures.bytes c.args.ends.now are
    c.if-spot-ends.true c.if-ends-spot.true

pub returns-else-ends-spot : goal.returns-else-ends-spot
returns-else-ends-spot c = λ cells are.
    ends_stay_at c.args.places.now cells c.args.cell c.spot-spot.result c.bytes.result c.spot-spot.ensures.spot c.bytes.ensures.bytes c.args.ends.now are
    (λ inside. c.if-ends-spot.false)

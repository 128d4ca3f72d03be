use Rattle.waff_plan.specs.Planned.{planned_starts}
use Rattle.waff_plan.proofs.ServingLemmas.{served_obeys_apart}
use Rattle.waff_plan.proofs.waited.waited.Goals as goal

pub waits-requires-clause-apart : goal.waits-requires-clause-apart
waits-requires-clause-apart c =
    let planned = c.args.planned.now in
    let plan = planned.plan.now in
    served_obeys_apart planned.case.tree.now planned.case.assigned.now plan.timings (planned_starts planned) planned.lengths plan.version c.len-messages.ensures.table.timings
    c.requires.served

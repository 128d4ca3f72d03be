-- The greatest of the four.
use Rattle.std.proofs.Common.{◌≡◌, arith, ◌∙◌, ap}
use Rattle.waff_plan.specs.LowerBound.{greatest_lock, share_in}
use Rattle.waff_plan.specs.Planned.{planned_work}
use Rattle.waff_plan.proofs.LockNeedLemmas.{greatest_is}
use Rattle.waff_plan.proofs.lower_bound.lower_bound.Goals as goal

pub returns : goal.returns
returns c =
    let assigned = c.args.planned.now.case.assigned.now in
    let work = planned_work c.args.planned.now in
    let found = c.in_ok-locks.ensures in
    let locks : c.in_ok-locks.locks.ticks ≡ greatest_lock assigned work = found.2.ticks ∙ greatest_is assigned work found.0 found.1 in
    omega (
      arith,
      c.share-share.ensures,
      ap (share_in c.args.workers) c.total.ensures.total,
      c.in_ok-awaiting.ensures.ticks,
      c.in_ok-paths.ensures.ticks,
      locks,
      c.max.ensures,
      c.max-2.ensures,
      c.max-3.ensures,
    )

-- Without workers nothing is known of the first messages.
use Rattle.waff_plan.specs.Planned.{planned_starts, planned_work}
use Rattle.waff_check.specs.Verdicts.{worker_in}
use Rattle.waff_check.proofs.ShiftLaws.{right-none}
use Rattle.waff_check.proofs.worker.wrong_worker.Goals as goal

pub first_misplaced-requires-clause-right : goal.first_misplaced-requires-clause-right
first_misplaced-requires-clause-right c =
    right-none (planned_work c.args.claim.now.planned) (planned_starts c.args.claim.now.planned) (worker_in c.args.claim.now.given.now) _

-- No earlier message has a wrong worker.
use Rattle.std.proofs.Common.{arith, refl}
use Rattle.waff_plan.specs.Planned.{planned_starts, planned_work}
use Rattle.waff_check.specs.Verdicts.{worker_in}
use Rattle.waff_check.proofs.ShiftLaws.{right-below}
use Rattle.waff_check.proofs.FirstLaws.{below-more, least-first, none-of, refuted}
use Rattle.waff_check.proofs.worker.first_misplaced.Goals as goal

pub loop-n-init : goal.loop-n-init
loop-n-init c =
    right-below (planned_work c.args.claim.now.planned) (planned_starts c.args.claim.now.planned) (worker_in c.args.claim.now.given.now) c.args.workers c.args.right c.requires.right

pub returns-then-is_misplaced : goal.returns-then-is_misplaced
returns-then-is_misplaced c =
    least-first _ _ c.loop-n.invariant (record { number = record { from = omega arith; to = omega (arith, c.len-messages.ensures.count) }; wrong = c.if-is_misplaced.ensures.0 refl })

pub loop-n-preserved : goal.loop-n-preserved
loop-n-preserved c = below-more _ _ c.loop-n.invariant (λ h. refuted c.if-is_misplaced.ensures.1 h.wrong)

pub returns : goal.returns
returns c = none-of _ _ c.loop-n.invariant (λ m le h. let e = h.number.to in omega (arith, c.len-messages.ensures.count))

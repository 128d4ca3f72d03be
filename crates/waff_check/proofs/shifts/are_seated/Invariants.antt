use Rattle.std.proofs.Common.{ℕ, ◌<◌}
use Rattle.waff_plan.specs.Planned.{planned_work}
use Rattle.waff_plan.specs.Work.{IsNumber}
use Rattle.waff_check.specs.Shifts.{IsOneOf, first_of}
use Rattle.waff_check.specs.Verdicts.{worker_in}
use Rattle.waff_check.proofs.shifts.are_seated.Given as goal

abbrev pub invariant-loop-n : goal.invariant-loop-n
invariant-loop-n l = (m : ℕ) → IsNumber (first_of (planned_work l.claim.planned) l.many) m → m < l.n → IsOneOf l.k (worker_in l.claim.given.now m)

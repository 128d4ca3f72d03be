-- Workers are right where each is one of all, and the shifts follow one another.
use Rattle.std.proofs.Common.{arith}
use Rattle.waff_plan.specs.Planned.{planned_starts, planned_work}
use Rattle.waff_check.specs.Shifts.{first_of}
use Rattle.waff_check.specs.Verdicts.{worker_in}
use Rattle.waff_check.proofs.ShiftLaws.{apart-where-right, right, seated-where-right}
use Rattle.waff_check.proofs.shifts.are_right.Goals as goal

pub returns-then-not-are_seated : goal.returns-then-not-are_seated
returns-then-not-are_seated c =
    (λ t n h. cc t, λ none. c.if-not-are_seated.ensures.1 (seated-where-right (first_of (planned_work c.args.claim.now.planned) c.args.many) (planned_starts c.args.claim.now.planned) (worker_in c.args.claim.now.given.now) c.args.k none))

pub are_apart-requires : goal.are_apart-requires
are_apart-requires c =
    rw c.as_slice.ensures.value
    (λ i d lt. let one = (c.in_ok-shifts.ensures.only i d lt).number in record { from = one.from; to = omega (arith, one.to, c.requires.many) })

pub returns : goal.returns
returns c =
    let work = first_of (planned_work c.args.claim.now.planned) c.args.many in
    let start = planned_starts c.args.claim.now.planned in
    let worker = worker_in c.args.claim.now.given.now in
    let are = c.in_ok-shifts.ensures in
    let apart = rw c.as_slice.ensures.value at c.are_apart.ensures in
    let seated = c.are_seated.ensures.0 c.if-not-are_seated.false in (
      λ h. right work start worker c.in_ok-shifts.shifts.items are c.args.k seated (apart.0 h),
      λ none. apart.1 (apart-where-right work start worker c.in_ok-shifts.shifts.items are c.args.k none),
    )

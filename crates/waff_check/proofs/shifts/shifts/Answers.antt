-- One message after another, and all of them sorted.
use Rattle.std.proofs.Common.{◌≡◌, arith, of_calls, rules}
use Rattle.std.proofs.lemmas.Fn.{always_returns_same}
use Rattle.waff_plan.specs.Planned.{planned_starts, planned_work}
use Rattle.waff_check.specs.Shifts.{first_of, shift_of}
use Rattle.waff_check.specs.Verdicts.{worker_in}
use Rattle.waff_check.proofs.ShiftSteps.{shifts-more, shifts-none, shifts-same, shifts-sorted}
use Rattle.waff_check.proofs.shifts.shifts.Goals as goal
use Rattle.waff_check.proofs.shifts.shifts.Goals.{in-Some+in_ok-push, in_default}

pub loop-n-init : goal.loop-n-init
loop-n-init c = rw c.in_ok-shifts.ensures.items (shifts-none (first_of (planned_work c.args.claim.now.planned) c.args.many) (planned_starts c.args.claim.now.planned) (worker_in c.args.claim.now.given.now))

pub loop-n-preserved : goal.loop-n-preserved
loop-n-preserved c =
    let work = first_of (planned_work c.args.claim.now.planned) c.args.many in
    let start = planned_starts c.args.claim.now.planned in
    let worker = worker_in c.args.claim.now.given.now in
    let n = c.loop-n.n in
    let so_far = c.loop-n.invariant in
    let is = c.find_shift.ensures c.args.many (omega arith) in
    elim c.match-find_shift.branch [
      | in-Some+in_ok-push w ↦ rw (w.shifts-is, w.in_ok-push.ensures.items) (shifts-more work start worker n w.in-Some.shift c.find_shift.result c.loop-n.shifts.items w.in-Some.is is so_far)
      | in_default w ↦ rw w.shifts-is (shifts-same work start worker n c.find_shift.result c.loop-n.shifts.items w.in_default.not-Some is so_far)
    ]

pub returns : goal.returns
returns c =
    let by = c.sort_unstable_by_key.ensures in
    shifts-sorted (first_of (planned_work c.args.claim.now.planned) c.args.many) (planned_starts c.args.claim.now.planned) (worker_in c.args.claim.now.given.now)
    c.loop-n.n c.loop-n.shifts.items c.sort_unstable_by_key.new.self.items (omega arith) c.loop-n.invariant by.permutation
    (λ i lt. by.sorted (λ s. (s.worker, s.start)) (always_returns_same _ (λ a r. r ≡ (a.0.now.worker, a.0.now.start)) _ (λ a r f k. search (rules, of_calls)))
    i (shift_of 0 0 0) (omega arith) lt)

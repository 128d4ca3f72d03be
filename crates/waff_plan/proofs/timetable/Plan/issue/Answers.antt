-- The issue is early enough.
use Rattle.std.proofs.Common.{◌≡◌, ℕ, ◌+◌, ◌-◌, ◌^◌, ◌≤◌, length, arith, sym, subst}
use Rattle.waff_model.specs.declared.limits.TheConstants.{MAX_TICK}
use Rattle.waff_plan.specs.Timetable.{IsTimetable, Timetable, starts_in, work_in}
use Rattle.waff_plan.specs.Work.{IsAmongFirst, IsAwaited, IsNumber, finish_of, issue_of}
use Rattle.waff_plan.proofs.Holding.{issued_by}
use Rattle.waff_plan.proofs.IssueLoop.{small_work}
use Rattle.waff_plan.proofs.timetable.Plan.issue.Goals as goal

-- a start of a plan can be printed
printable : (plan : Timetable) → IsTimetable plan → (i : ℕ) → IsNumber (work_in plan) i → starts_in plan i ≤ MAX_TICK
printable plan is i number = is.printable (i - 1) 0 (omega (arith, number.from, number.to, is.lengths))

-- what a message awaits is a message
awaited_number : (plan : Timetable) → IsTimetable plan → (i m : ℕ) → IsAwaited ((work_in plan).awaits m) i → IsNumber (work_in plan) i
awaited_number plan is i m awaited =
    let before = is.timings.earlier i m awaited in record { from = before.from; to = omega (arith, before.earlier, before.to) }

issue_small : (plan : Timetable) → IsTimetable plan → (m : ℕ) → IsNumber (work_in plan) m → issue_of (work_in plan) (starts_in plan) m ≤ MAX_TICK + 2 ^ 32
issue_small plan is m number =
    let work = work_in plan in
    let small = small_work plan.timings is.timings.small in
    issued_by (finish_of work (starts_in plan)) (work.floor m) (MAX_TICK + 2 ^ 32) (work.awaits m) (omega (arith, small.floor m number))
    (λ i awaited.
    let known = awaited_number plan is i m awaited in
    omega (arith, printable plan is i known, small.cost i known, small.gap i m number))

pub issue-requires : goal.issue-requires
issue-requires c =
    let plan : Timetable = record { version = c.self.inside.version; timings = c.self.inside.timings.items; starts = c.self.inside.starts.items } in
    let is = c.self.invariant in
    rw (c.deref.ensures.value, c.deref-2.ensures.value) (record {
      number = subst (λ (t : Timetable). IsAmongFirst (length t.timings) c.args.n) (sym c.self.view_is) c.requires.number;
      small = is.timings.small;
      count = is.lengths;
      earlier = is.timings.earlier;
      early = λ i awaited. omega (arith, printable plan is i (awaited_number plan is i c.args.n awaited));
    })

pub returns-clause-small : goal.returns-clause-small
returns-clause-small c =
    let plan : Timetable = record { version = c.self.inside.version; timings = c.self.inside.timings.items; starts = c.self.inside.starts.items } in
    let number = subst (λ (t : Timetable). IsAmongFirst (length t.timings) c.args.n) (sym c.self.view_is) c.requires.number in
    let is : c.issue.result ≡ issue_of (work_in plan) (starts_in plan) c.args.n = rw (← c.deref.ensures.value, ← c.deref-2.ensures.value) c.issue.ensures in
    omega (arith, issue_small plan c.self.invariant c.args.n number, is)

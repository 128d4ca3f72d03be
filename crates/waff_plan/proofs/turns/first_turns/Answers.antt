use Rattle.std.proofs.Common.{List, [], refl, sym, ◌∙◌, ap, subst}
use Rattle.waff_model.specs.Versions.{has_clients}
use Rattle.waff_plan.specs.Awaiting.{AreAwaiting}
use Rattle.waff_plan.specs.Pending.{AreFirst}
use Rattle.waff_plan.specs.Timetable.{work_in}
use Rattle.waff_plan.specs.Timing.{work_of}
use Rattle.waff_plan.specs.Work.{issue_of}
use Rattle.waff_plan.specs.declared.timing.Timing.{Timing}
use Rattle.waff_plan.proofs.TurnLemmas.{first_issued, first_numbers, follows_none, nobody_awaits}
use Rattle.waff_plan.proofs.turns.first_turns.Goals as goal

pub returns-in_ok-first_issues-clause-first : goal.returns-in_ok-first_issues-clause-first
returns-in_ok-first_issues-clause-first c =
    first_issued c.args.plan.now.version (work_in c.args.plan.now) c.in_ok-first_issues.field-0 (ap has_clients (sym c.version.ensures) ∙ sym c.has_clients.ensures ∙ c.if-has_clients.true) (subst (λ (ts : List Timing). AreFirst (work_of ts) (issue_of (work_of ts)) c.in_ok-first_issues.field-0) c.timings-then-has_clients.ensures c.in_ok-first_issues.ensures)

pub returns-else-has_clients-clause-first : goal.returns-else-has_clients-clause-first
returns-else-has_clients-clause-first c =
    rw c.len-end.ensures.count (first_numbers c.args.plan.now.version c.args.plan.now.timings c.len-end.ensures.table.timings (ap has_clients (sym c.version.ensures) ∙ sym c.has_clients.ensures ∙ c.if-has_clients.false))

pub first_issues-requires : goal.first_issues-requires
first_issues-requires c = rw c.timings-then-has_clients.ensures (record { few = c.len-end.ensures.table.few })

pub returns-else-has_clients-clause-waits : goal.returns-else-has_clients-clause-waits
returns-else-has_clients-clause-waits c =
    nobody_awaits (work_in c.args.plan.now)
    (follows_none c.args.plan.now.version c.args.plan.now.timings c.len-end.ensures.table.timings (ap has_clients (sym c.version.ensures) ∙ sym c.has_clients.ensures ∙ c.if-has_clients.false))

pub awaiting-requires : goal.awaiting-requires
awaiting-requires c = rw c.timings.ensures (record { few = c.len-end.ensures.table.few; earlier = c.len-end.ensures.table.timings.earlier })

pub returns-in_ok-first_issues-clause-waits : goal.returns-in_ok-first_issues-clause-waits
returns-in_ok-first_issues-clause-waits c = (
  c.in_ok-waits.waits,
  subst (λ (ts : List Timing). AreAwaiting (work_of ts) [] c.in_ok-waits.waits) c.timings.ensures c.in_ok-waits.ensures,
  refl,
)

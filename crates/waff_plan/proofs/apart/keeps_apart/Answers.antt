-- By their starts: the pairs that begin with one of the first, and those that end with one.
use Rattle.std.proofs.Common.{◌↔◌, ℕ, List, ◌+◌, ◌<◌, inl, inr, IsTrue, arith, refl, subst, sym}
use Rattle.std.proofs.lemmas.Result.{IfOk-weaker}
use Rattle.waff_assign.specs.Case.{pairs_of}
use Rattle.waff_plan.specs.Apart.{AreApart}
use Rattle.waff_plan.specs.ByStart.{AreByStart}
use Rattle.waff_plan.specs.Keeps.{KeepsPairs}
use Rattle.waff_plan.specs.Obeys.{IsAmong}
use Rattle.waff_plan.specs.Planned.{planned_starts, planned_work}
use Rattle.waff_plan.specs.Timetable.{IsTimetable}
use Rattle.waff_plan.specs.declared.planned.Planned.{Planned}
use Rattle.waff_plan.specs.declared.sequence.Started.{Started}
use Rattle.waff_plan.proofs.Sequences.{apart_kept, pairs_apart, started_messages}
use Rattle.waff_plan.proofs.ServingLemmas.{each_runs}
use Rattle.waff_plan.proofs.apart.keeps_apart.Goals as goal

-- what the pairs of a plan tell
module _ (planned : Planned) (table : IsTimetable planned.plan.now) (count : ℕ) (started : List Started)
    (are : AreByStart (planned_work planned) (planned_starts planned) started) where
  abbrev all : ℕ
  all = (planned_work planned).count

  abbrev Kept : ℕ → ℕ → ℕ → Type 0
  Kept from to last =
      KeepsPairs planned.case.tree.now planned.case.assigned.now (planned_work planned) (planned_starts planned) started (record { from = from; to = to; last = last })

  abbrev Apart : Type 0
  Apart = AreApart (IsAmong count (pairs_of planned.case)) (planned_work planned) (planned_starts planned)

  first_kept : Apart → Kept 1 count all
  first_kept =
      pairs_apart planned.case.tree.now planned.case.assigned.now (planned_work planned) (planned_starts planned) count (sym planned.lengths)
      (each_runs planned.plan.now.version planned.plan.now.timings table.timings) started are (record { from = 1; to = count; last = all }) (λ i j one other. inl one)

  others_kept : Apart → Kept (count + 1) all count
  others_kept =
      pairs_apart planned.case.tree.now planned.case.assigned.now (planned_work planned) (planned_starts planned) count (sym planned.lengths)
      (each_runs planned.plan.now.version planned.plan.now.timings table.timings) started are (record { from = count + 1; to = all; last = count }) (λ i j one other. inr other)

  all_apart : Kept 1 count all → (count < all → Kept (count + 1) all count) → Apart
  all_apart =
      apart_kept planned.case.tree.now planned.case.assigned.now (planned_work planned) (planned_starts planned) count (sym planned.lengths)
      (each_runs planned.plan.now.version planned.plan.now.timings table.timings) started are

pub keeps-requires : goal.keeps-requires
keeps-requires c =
    let planned = c.args.planned.now in
    record { sequence = started_messages (planned_work planned) (planned_starts planned) c.in_ok-by_start.field-0.items c.in_ok-by_start.ensures }

pub keeps-requires-2 : goal.keeps-requires-2
keeps-requires-2 c =
    let planned = c.args.planned.now in
    record { sequence = started_messages (planned_work planned) (planned_starts planned) c.in_ok-by_start.field-0.items c.in_ok-by_start.ensures }

pub returns-then-not-branch : goal.returns-then-not-branch
returns-then-not-branch c =
    let told = rw c.len-messages.ensures.count at c.in_ok-keeps.ensures in (
      λ t. absurd (cc t),
      λ apart.
          absurd (cc (
            told.1 (first_kept c.args.planned.now c.len-messages.ensures.table c.args.count c.in_ok-by_start.field-0.items c.in_ok-by_start.ensures apart),
            c.if-not-branch.true,
          )),
    )

pub returns-then-messages-count : goal.returns-then-messages-count
returns-then-messages-count c =
    let told = rw c.len-messages.ensures.count at c.in_ok-keeps.ensures in (
      λ t. all_apart c.args.planned.now c.len-messages.ensures.table c.args.count c.in_ok-by_start.field-0.items c.in_ok-by_start.ensures
          (told.0 (subst IsTrue (sym c.if-not-branch.false) t)) (λ more. absurd (omega (arith, more, c.if-messages-count.true, c.len-messages.ensures.count))),
      λ apart. refl,
    )

pub returns : goal.returns
returns c =
    let planned = c.args.planned.now in
    let table = c.len-messages.ensures.table in
    let started = c.in_ok-by_start.field-0.items in
    let are = c.in_ok-by_start.ensures in
    let count = c.args.count in
    let told = rw c.len-messages.ensures.count at c.in_ok-keeps.ensures in
    let first = told.0 (subst IsTrue (sym c.if-not-branch.false) refl) in
    IfOk-weaker c.keeps-2.result _ _
    (λ kept also.
    let others = subst (λ n. IsTrue kept ↔ KeepsPairs planned.case.tree.now planned.case.assigned.now (planned_work planned) (planned_starts planned) started
    (record { from = count + 1; to = n; last = count })) c.len-messages.ensures.count also in (
      λ t. all_apart planned table count started are first (λ more. others.0 t),
      λ apart. others.1 (others_kept planned table count started are apart),
    ))
    c.keeps-2.ensures

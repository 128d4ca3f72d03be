use Rattle.std.proofs.Common.{refl, string_bytes}
use Rattle.waff_figures.specs.declared.told.Told.TheVariants as told
use Rattle.waff_tool.proofs.ToldTexts.{tells_as}
use Rattle.waff_tool.proofs.told.text_of.Goals as goal

pub returns-in-Assign : goal.returns-in-Assign
returns-in-Assign g c =
    tells_as (λ text. string_bytes text) _ told.Assign c.args.accepted.now.layout _ _ c.assigned_text.result c.in-Assign.is c.case-case.ensures.instance
    c.assigned_text.ensures

pub returns-in-Plan : goal.returns-in-Plan
returns-in-Plan g c =
    tells_as (λ text. string_bytes text) _ (told.Plan c.in-Plan.workers c.in-Plan.rule) c.args.accepted.now.layout _ _ c.planned_text.result c.in-Plan.is c.case-case.ensures.instance
    c.planned_text.ensures

pub returns-in-Needs : goal.returns-in-Needs
returns-in-Needs g c =
    tells_as (λ text. string_bytes text) _ told.Needs c.args.accepted.now.layout _ _ c.needed_text.result c.in-Needs.is c.case-case.ensures.instance
    c.needed_text.ensures

pub returns-in-Sweep : goal.returns-in-Sweep
returns-in-Sweep g c =
    tells_as (λ text. string_bytes text) _ (told.Sweep c.in-Sweep.given c.in-Sweep.rule) c.args.accepted.now.layout _ _ c.swept_text.result c.in-Sweep.is c.case-case.ensures.instance
    c.swept_text.ensures

pub returns-in-Limits : goal.returns-in-Limits
returns-in-Limits g c =
    tells_as (λ text. string_bytes text) _ (told.Limits c.in-Limits.given c.in-Limits.rule) c.args.accepted.now.layout _ _ c.limited_text.result c.in-Limits.is c.case-case.ensures.instance
    (rw c.numbers_or.ensures at c.limited_text.ensures)

pub returns-in-Where : goal.returns-in-Where
returns-in-Where g c =
    tells_as (λ text. string_bytes text) _ (told.Where c.in-Where.workers c.in-Where.rule c.in-Where.label c.in-Where.columns) c.args.accepted.now.layout _ _ c.spent_text.result c.in-Where.is c.case-case.ensures.instance
    (rw c.has_locks-locks.ensures at c.spent_text.ensures)

pub returns-in-Waits : goal.returns-in-Waits
returns-in-Waits g c =
    tells_as (λ text. string_bytes text) _ (told.Waits c.in-Waits.workers c.in-Waits.rule c.in-Waits.grouping) c.args.accepted.now.layout _ _ c.waited_text.result c.in-Waits.is c.case-case.ensures.instance
    c.waited_text.ensures

pub returns-in-Worst : goal.returns-in-Worst
returns-in-Worst g c =
    tells_as (λ text. string_bytes text) _ (told.Worst c.in-Worst.workers c.in-Worst.rule c.in-Worst.most) c.args.accepted.now.layout _ _ c.waited_text-in-Worst.result c.in-Worst.is c.case-case.ensures.instance
    c.waited_text-in-Worst.ensures

pub returns-in-Why : goal.returns-in-Why
returns-in-Why g c =
    tells_as (λ text. string_bytes text) _ (told.Why c.in-Why.grouping) c.args.accepted.now.layout _ _ c.lifted_text.result c.in-Why.is refl
    c.lifted_text.ensures

pub returns-in-Locks : goal.returns-in-Locks
returns-in-Locks g c =
    tells_as (λ text. string_bytes text) _ (told.Locks c.in-Locks.workers c.in-Locks.rule c.in-Locks.kind c.in-Locks.steps) c.args.accepted.now.layout _ _ c.locks_text.result c.in-Locks.is refl
    c.locks_text.ensures

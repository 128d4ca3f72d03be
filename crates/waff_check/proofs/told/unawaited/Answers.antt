-- What stands in the list so far holds back no longer.
use Rattle.std.proofs.Common.{◌≡◌, ◌+◌, ◌<◌, ◌≤◌, List, length, get_or, inl, inr, arith, sym, ◌∙◌, ap, subst}
use Rattle.std.specs.List.{AllPairs}
use Rattle.std.proofs.lemmas.Bool.{cases_lt}
use Rattle.std.proofs.lemmas.List.{get_or_default}
use Rattle.waff_plan.specs.Planned.{planned_starts}
use Rattle.waff_plan.specs.Timing.{timing_of}
use Rattle.waff_plan.specs.Work.{Await, IsAmongFirst, finish_of}
use Rattle.waff_plan.specs.declared.timing.Timing.{Timing}
use Rattle.waff_check.specs.Faults.{IsLeastOf, StartsHeld}
use Rattle.waff_check.specs.Listed.{list_work_of}
use Rattle.waff_check.proofs.ListLaws.{first_held, list_rises, none_held}
use Rattle.waff_check.proofs.told.unawaited.Goals as goal

pub loop-awaited-preserved : goal.loop-awaited-preserved
loop-awaited-preserved c =
    let planned = c.args.planned.now in
    let timings = planned.plan.now.timings in
    let finish = finish_of (list_work_of timings) (planned_starts planned) in
    let list = c.after-awaited-items.result.now in
    let index = c.loop-awaited.awaited-index in
    let none : Await = record { message = 0; gap = 0 } in
    λ k d less. elim (cases_lt k index) [
      | inl before ↦ c.loop-awaited.invariant k d before
      | inr past ↦
          let same : k ≡ index = omega (arith, less, past) in
          let this : get_or list index none ≡ get_or (timing_of timings c.args.n).after k d
          = get_or_default list index none d c.loop-awaited-test.true ∙ ap (λ i. get_or list i d) (sym same) ∙ ap (λ xs. get_or xs k d) c.after-awaited-items.ensures.after in
          let kept : finish (get_or list index none).message + (get_or list index none).gap ≤ planned_starts planned c.args.n
          = omega (arith, c.if-start-finish.false, c.finish.ensures.finish, c.from.ensures, c.start-start.ensures.start) in
          subst (λ (a : Await). finish a.message + a.gap ≤ planned_starts planned c.args.n) this kept
    ]

pub returns-then-start-finish : goal.returns-then-start-finish
returns-then-start-finish c =
    let planned = c.args.planned.now in
    let timings = planned.plan.now.timings in
    let start = planned_starts planned in
    let n = c.args.n in
    let index = c.loop-awaited.awaited-index in
    let list = c.after-awaited-items.result.now in
    let none : Await = record { message = 0; gap = 0 } in
    let same : list ≡ (timing_of timings n).after = c.after-awaited-items.ensures.after in
    let this : get_or list index none ≡ get_or (timing_of timings n).after index none = ap (λ xs. get_or xs index none) same in
    let number = subst (λ (ts : List Timing). IsAmongFirst (length ts) n) planned.timings c.requires.number in
    let rising : AllPairs (λ (a b : Await). a.message < b.message) (timing_of timings n).after
    = subst (λ (ts : List Timing). AllPairs (λ (a b : Await). a.message < b.message) (timing_of ts n).after) (sym planned.timings)
    (list_rises planned.case.trace.now c.len-messages.ensures.trace n number) in
    let early : start n < finish_of (list_work_of timings) start (get_or list index none).message + (get_or list index none).gap
    = omega (arith, c.if-start-finish.true, c.finish.ensures.finish, c.from.ensures, c.start-start.ensures.start) in
    subst (λ (a : Await). IsLeastOf (StartsHeld (list_work_of timings) start n) a.message) (sym this)
    (first_held timings start n rising c.requires.number index none (omega (arith, c.loop-awaited-test.true, ap (length {A = Await}) same))
    c.loop-awaited.invariant (subst (λ (a : Await). start n < finish_of (list_work_of timings) start a.message + a.gap) this early))

pub returns : goal.returns
returns c =
    let planned = c.args.planned.now in
    none_held planned.plan.now.timings (planned_starts planned) c.args.n
    (λ k d less. c.loop-awaited.invariant k d (omega (arith, less, c.loop-awaited-test.false, ap (length {A = Await}) c.after-awaited-items.ensures.after)))

-- What is told of the turns of a run obeys.
use Rattle.std.proofs.Common.{◌≡◌, ℕ, ◌+◌, List, length, arith, refl, subst, sym, ◌∙◌, ap}
use Rattle.waff_plan.specs.Obeys.{AwaitsEarlier}
use Rattle.waff_plan.specs.ServesAs.{ObeysApart}
use Rattle.waff_plan.specs.Timetable.{Timetable, starts_in, work_in}
use Rattle.waff_plan.specs.Work.{Work, IsAmongFirst, IsAwaited, finish_of}
use Rattle.waff_plan.proofs.TimingLemmas.{length-timings_of}
use Rattle.waff_line.specs.Machine.{Course}
use Rattle.waff_line.specs.Turns.{AreRunTurns}
use Rattle.waff_line.specs.declared.turn.Turn.{Turn}
use Rattle.waff_record.specs.Laws.{IsRunCourse}
use Rattle.waff_record.specs.Ran.{HasRun, IsToldOf, course_run, ticks_run}
use Rattle.waff_record.specs.Rounded.{HasOtherCosts, IsRounded}
use Rattle.waff_record.specs.declared.turns.RunTurns.{RunTurns}
use Rattle.waff_record.proofs.Pass.{told_alike}
use Rattle.waff_record.proofs.Telling.{number_told, rounding_tells}

-- what has the starts and finishes of the rounding is the rounding
module _ (course : Course) (ticks : Work) (tick : ℕ) (turns : List Turn) (is : IsRunCourse course ticks tick) (ran : AreRunTurns course turns) where
  pub rounded_alike : (work other : Work) (start again : ℕ → ℕ) → IsRounded course ticks tick turns work start → HasOtherCosts ticks other
      → ((n : ℕ) → IsAmongFirst course.work.count n → (again n ≡ start n) × (finish_of other again n ≡ finish_of work start n))
      → IsRounded course ticks tick turns other again
  rounded_alike work other start again rounded costs same = record {
    work_is = costs;
    told = λ m number.
        let count : course.work.count ≡ ticks.count = ap (λ (w : Work). w.count) is.work_is in
        let known : IsAmongFirst course.work.count m = record { from = number.from; to = omega (arith, number.to, count, costs.count) } in
        told_alike course ticks tick turns is ran m known work other start again rounded.work_is costs (same m known).0 (same m known).1
        (λ j j_known sooner. (same j j_known).1) (rounded.told m (number_told course ticks tick turns is ran work start rounded m known));
  }

-- the course of a run
module _ (run : RunTurns) (plan : Timetable) (ran : HasRun run) (told : IsToldOf run plan) (earlier : AwaitsEarlier (work_in plan)) where
  ticks_earlier : AwaitsEarlier (ticks_run run)
  ticks_earlier i m awaited =
      let at = earlier i m (subst (λ awaits. IsAwaited awaits i) (sym (told.work_is.awaits m)) awaited) in
      record { from = at.from; earlier = at.earlier; to = omega (arith, at.to, told.work_is.count) }

  pub is_course : IsRunCourse (course_run run) (ticks_run run) run.tick
  is_course = record {
    work_is = refl;
    earlier = ticks_earlier;
    many = run.case.lengths ∙ sym (length-timings_of run.case.trace.now.messages);
  }

  pub as_many : length plan.timings ≡ length run.case.assigned.now
  as_many = told.work_is.count ∙ (length-timings_of run.case.trace.now.messages ∙ sym run.case.lengths)

  -- what is told obeys
  pub obeys_apart : ObeysApart run.case.tree.now run.case.assigned.now (work_in plan) (starts_in plan)
  obeys_apart =
      let tells = rounding_tells (course_run run) (ticks_run run) run.tick run.turns.now is_course ran (work_in plan) (starts_in plan) told in
      record { issued = tells.issued; apart = tells.apart }

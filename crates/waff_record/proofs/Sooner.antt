-- What is told of a message goes by what is told of those before it.
use Rattle.std.proofs.Common.{◌≡◌, ℕ, ◌<◌, List, arith, sym, ◌∙◌, ap, subst}
use Rattle.waff_plan.specs.Work.{Work, IsAmongFirst, IsAwaited, finish_of, issue_after, issue_of}
use Rattle.waff_plan.proofs.Holding.{issue_again}
use Rattle.waff_line.specs.Machine.{Course}
use Rattle.waff_line.specs.Turns.{AreRunTurns}
use Rattle.waff_line.specs.declared.turn.Turn.{Turn}
use Rattle.waff_line.proofs.Scaling.{awaited_scaled}
use Rattle.waff_record.specs.Laws.{IsRunCourse}
use Rattle.waff_record.specs.Rounded.{HasOtherCosts, MayStart}
use Rattle.waff_record.specs.Turns.{turn_at}
use Rattle.waff_record.proofs.Ran.{ran_after, ran_some}

module _ (course : Course) (ticks : Work) (tick : ℕ) (turns : List Turn) (is : IsRunCourse course ticks tick) (ran : AreRunTurns course turns) where
  module _ (i : ℕ) (number : IsAmongFirst course.work.count i) (work other : Work) (start again : ℕ → ℕ) (base : HasOtherCosts ticks work) (alike : HasOtherCosts ticks other)
      (same : (j : ℕ) → IsAmongFirst course.work.count j → (turn_at turns j).start < (turn_at turns i).start → finish_of other again j ≡ finish_of work start j) where
    issue_alike : issue_of other again i ≡ issue_of work start i
    issue_alike =
        ap (issue_after (finish_of other again) (other.floor i)) (alike.awaits i)
        ∙ ap (λ floor. issue_after (finish_of other again) floor (ticks.awaits i)) (alike.floor i ∙ sym (base.floor i))
        ∙ issue_again (finish_of other again) (finish_of work start) (work.floor i) (ticks.awaits i) finish_alike
        ∙ ap (issue_after (finish_of work start) (work.floor i)) (sym (base.awaits i))
      where
        finish_alike : (f : ℕ) → IsAwaited (ticks.awaits i) f → finish_of other again f ≡ finish_of work start f
        finish_alike f awaited =
            let at = is.earlier f i awaited in
            let f_number : IsAmongFirst course.work.count f = record { from = at.from; to = omega (arith, at.earlier, number.to) } in
            let scaled = subst (λ (w : Work). IsAwaited (w.awaits i) f) (sym is.work_is) (awaited_scaled tick f (ticks.awaits i) awaited) in
            let done = ran_after course turns ran f i at.from number scaled in
            same f f_number (let runs = ran_some course turns ran f f_number in omega (arith, done, runs))

    pub may_alike : (t : ℕ) → MayStart course tick turns work start i t → MayStart course tick turns other again i t
    may_alike t may = record {
      begun = may.begun;
      issued = omega (arith, issue_alike, may.issued);
      after = λ j before. omega (arith, same j before.number before.sooner, may.after j before);
    }

    pub may_back : (t : ℕ) → MayStart course tick turns other again i t → MayStart course tick turns work start i t
    may_back t may = record {
      begun = may.begun;
      issued = omega (arith, issue_alike, may.issued);
      after = λ j before. omega (arith, same j before.number before.sooner, may.after j before);
    }

-- Turns have one rounding.
use Rattle.std.proofs.Common.{◌≡◌, ℕ, zero, suc, ◌+◌, ◌<◌, List, arith, sym}
use Rattle.waff_plan.specs.Work.{Work, IsAmongFirst, finish_of}
use Rattle.waff_line.specs.Machine.{Course}
use Rattle.waff_line.specs.Turns.{AreRunTurns}
use Rattle.waff_line.specs.declared.turn.Turn.{Turn}
use Rattle.waff_record.specs.Laws.{IsRunCourse, RoundingIsOne}
use Rattle.waff_record.specs.Rounded.{IsRounded}
use Rattle.waff_record.specs.Turns.{turn_at}
use Rattle.waff_record.proofs.Sooner.{may_alike, may_back}
use Rattle.waff_record.proofs.Telling.{count_is, number_told}

module _ (course : Course) (ticks : Work) (tick : ℕ) (turns : List Turn) (is : IsRunCourse course ticks tick) (ran : AreRunTurns course turns)
    (work other : Work) (start again : ℕ → ℕ) (one : IsRounded course ticks tick turns work start) (two : IsRounded course ticks tick turns other again) where
  -- messages that began before a time
  below : (n m : ℕ) → IsAmongFirst course.work.count m → (turn_at turns m).start < n → (start m ≡ again m) × (finish_of work start m ≡ finish_of other again m)
  below zero m number less = absurd (omega (arith, less))
  below (suc n) m number less =
      let same = λ (j : ℕ) (j_number : IsAmongFirst course.work.count j) (sooner : (turn_at turns j).start < (turn_at turns m).start).
      sym (below n j j_number (omega (arith, sooner, less))).1 in
      let first = one.told m (number_told course ticks tick turns is ran work start one m number) in
      let second = two.told m (number_told course ticks tick turns is ran other again two m number) in
      let no_later = first.least (again m) (may_back course ticks tick turns is ran m number work other start again one.work_is two.work_is same (again m) second.may) in
      let no_sooner = second.least (start m) (may_alike course ticks tick turns is ran m number work other start again one.work_is two.work_is same (start m) first.may) in
      let starts : start m ≡ again m = omega (arith, no_later, no_sooner) in
      (starts, omega (arith, starts, first.finish, second.finish))

pub rounding_is_one : (course : Course) (ticks : Work) (tick : ℕ) (turns : List Turn) → RoundingIsOne course ticks tick turns
rounding_is_one course ticks tick turns is ran work other start again one two m number =
    below course ticks tick turns is ran work other start again one two ((turn_at turns m).start + 1) m
    (record { from = number.from; to = let few = count_is course ticks tick turns is ran in omega (arith, number.to, few) }) (omega arith)

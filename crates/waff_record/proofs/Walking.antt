-- The messages of a run in the order in which they began, each told after those before it.
use Rattle.std.proofs.Common.{◌≡◌, ◌≢◌, ℕ, ◌+◌, ◌/◌, ◌<◌, ◌≤◌, inl, inr, max, List, length, Contains, Option, arith, sym, ◌∙◌, ap, subst}
use Rattle.std.proofs.lemmas.Bool.{cases_eq, cases_lt}
use Rattle.std.proofs.lemmas.List.{get_or_default}
use Rattle.waff_plan.specs.ByStart.{AreByStart, started_at, started_of}
use Rattle.waff_plan.specs.Table.{IsLatestExcluding}
use Rattle.waff_plan.specs.Timetable.{Timetable, starts_in, with_turn, work_in}
use Rattle.waff_plan.specs.Work.{Work, IsAmongFirst, finish_of, issue_of}
use Rattle.waff_plan.specs.declared.latest.Latest.{Latest}
use Rattle.waff_plan.specs.declared.sequence.Started.{Started}
use Rattle.waff_plan.proofs.ApartLaws.{number_here}
use Rattle.waff_plan.proofs.Noted.{AreNoted}
use Rattle.waff_line.specs.Machine.{Course}
use Rattle.waff_line.specs.Turns.{AreRunTurns}
use Rattle.waff_line.specs.declared.turn.Turn.{Turn}
use Rattle.waff_record.specs.Laws.{IsRunCourse}
use Rattle.waff_record.specs.Rounded.{HasOtherCosts, IsRounded, IsTold}
use Rattle.waff_record.specs.Turns.{turn_at}
use Rattle.waff_record.proofs.Placing.{costs_stay, finish_is, finish_stays, start_is, start_stays}
use Rattle.waff_record.proofs.Pass.{AreBefore, IsFreeFrom, StartsFrom, told_alike, told_here}

module _ (course : Course) (ticks : Work) (tick : ℕ) (turns : List Turn) (is : IsRunCourse course ticks tick) (ran : AreRunTurns course turns)
    (began : List Started) (key : ℕ → ℕ) (key_is : (n : ℕ) → key n ≡ (turn_at turns n).start) (are : AreByStart course.work key began) where
  -- the message at a place
  abbrev at_place : ℕ → ℕ
  at_place p = (started_at began p).number

  pub number_at : (p : ℕ) → p < length began → IsAmongFirst course.work.count (at_place p)
  number_at p within = number_here course.work key began are p within

  abbrev nobody : Started
  nobody = record { start = 0; number = 0 }

  -- the place of a message
  pub place_of : (m : ℕ) → IsAmongFirst course.work.count m → (p : ℕ) × (p < length began) × (at_place p ≡ m)
  place_of m number =
      let there = are.each m number in
      (there.0, there.1, ap (λ (x : Started). x.number) (get_or_default began there.0 nobody (started_of key m) there.1 ∙ there.2))

  in_order : (p q : ℕ) → p ≤ q → q < length began → (turn_at turns (at_place p)).start ≤ (turn_at turns (at_place q)).start
  in_order p q no_later within =
      let one = (are.only p nobody (omega (arith, no_later, within))).start_is in
      let other = (are.only q nobody within).start_is in
      omega (arith, are.rising p q no_later within, one, other, key_is (at_place p), key_is (at_place q))

  module _ (place : ℕ) (within : place < length began) (noted : List ℕ) (are_noted : AreNoted began (λ i. Unit {0}) place noted) where
    pub before_here : AreBefore course.work.count turns (at_place place) noted
    before_here = record {
      number = λ i there.
          let at = are_noted.each i there in
          subst (IsAmongFirst course.work.count) at.2 (number_at at.0 (omega (arith, at.1, within)));
      other = λ i there same. let at = are_noted.each i there in are.once at.0 place at.1 within (at.2 ∙ same);
      no_later = λ i there.
          let at = are_noted.each i there in
          subst (λ k. (turn_at turns k).start ≤ (turn_at turns (at_place place)).start) at.2 (in_order at.0 place (omega (arith, at.1)) within);
      all = λ i number sooner.
          let there = place_of i number in
          elim (cases_lt there.0 place) [
            | inl early ↦ subst (Contains noted) there.2 (are_noted.all there.0 early tt)
            | inr late ↦
                let later = in_order place there.0 late there.1 in
                let same = ap (λ k. (turn_at turns k).start) there.2 in
                absurd (omega (arith, later, same, sooner))
          ];
    }

    module _ (plan : Timetable) (costs : HasOtherCosts ticks (work_in plan)) (long : length plan.starts ≡ length plan.timings) (count : length plan.timings ≡ course.work.count)
        (told : (p : ℕ) → p < place → IsTold course tick turns (work_in plan) (starts_in plan) (at_place p))
        (start cost : ℕ) where
      abbrev m : ℕ
      m = at_place place

      abbrev next : Timetable
      next = with_turn plan m start cost

      known : (n : ℕ) → IsAmongFirst course.work.count n → IsAmongFirst (length plan.timings) n
      known n number = record { from = number.from; to = omega (arith, number.to, count) }

      here : IsAmongFirst (length plan.timings) m
      here = known m (number_at place within)

      pub other_costs : HasOtherCosts ticks (work_in next)
      other_costs = costs_stay plan m start cost here ticks costs

      pub finishes_stay : (j : ℕ) → IsAmongFirst course.work.count j → j ≢ m → finish_of (work_in next) (starts_in next) j ≡ finish_of (work_in plan) (starts_in plan) j
      finishes_stay j number other = finish_stays plan m start cost here j (known j number) other

      pub noted_stay : (i : ℕ) → Contains noted i → finish_of (work_in next) (starts_in next) i ≡ finish_of (work_in plan) (starts_in plan) i
      noted_stay i there = finishes_stay i (before_here.number i there) (before_here.other i there)

      pub here_finishes : finish_of (work_in next) (starts_in next) m ≡ start + cost
      here_finishes = finish_is plan m start cost here long

      module _ (latest : Option Latest)
          (found : IsLatestExcluding course.tree course.assigned (finish_of (work_in plan) (starts_in plan)) noted m latest)
          (free : ℕ) (is_free : IsFreeFrom turns (finish_of (work_in plan) (starts_in plan)) noted (turn_at turns m).worker free)
          (from : ℕ) (from_is : from ≡ max ((turn_at turns m).start / tick) (max (issue_of (work_in plan) (starts_in plan) m) free))
          (starts : StartsFrom latest from start) (finishes : start + cost ≡ max ((turn_at turns m).finish / tick) (start + 1)) where
        pub told_more : (p : ℕ) → p < place + 1 → IsTold course tick turns (work_in next) (starts_in next) (at_place p)
        told_more p less = elim (cases_eq p place) [
          | inl at ↦
              subst (λ k. IsTold course tick turns (work_in next) (starts_in next) (at_place k)) (sym at)
              (told_here course ticks tick turns is ran m (number_at place within) (work_in plan) (starts_in plan) noted before_here latest found free is_free from start from_is starts
              (work_in next) (starts_in next) costs other_costs (start_is plan m start cost here long) (here_finishes ∙ finishes) finishes_stay)
          | inr off ↦
              let early : p < place = omega (arith, less, off) in
              let number = number_at p (omega (arith, early, within)) in
              let other = are.once p place early within in
              told_alike course ticks tick turns is ran (at_place p) number (work_in plan) (work_in next) (starts_in plan) (starts_in next) costs other_costs
              (start_stays plan m start cost here (at_place p) (known (at_place p) number) other) (finishes_stay (at_place p) number other)
              (λ j j_number sooner. finishes_stay j j_number (λ same.
              let begins = ap (λ k. (turn_at turns k).start) same in
              let order = in_order p place (omega (arith, early)) within in
              omega (arith, begins, order, sooner)))
              (told p early)
        ]

  -- all are told
  pub all_told : (work : Work) (start : ℕ → ℕ) (place : ℕ) → length began ≤ place → HasOtherCosts ticks work → work.count ≡ course.work.count
      → ((p : ℕ) → p < place → IsTold course tick turns work start (at_place p)) → IsRounded course ticks tick turns work start
  all_told work start place all costs count told = record {
    work_is = costs;
    told = λ n number.
        let there = place_of n (record { from = number.from; to = omega (arith, number.to, count) }) in
        subst (IsTold course tick turns work start) there.2 (told there.0 (omega (arith, there.1, all)));
  }

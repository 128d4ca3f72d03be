-- The rounding of the turns of a run is a plan that obeys.
use Rattle.std.proofs.Common.{◌≡◌, ℕ, ◌-◌, ◌<◌, ◌≤◌, ◌⊎◌, inl, inr, true, List, length, arith, sym, ◌∙◌, ap, subst}
use Rattle.std.proofs.lemmas.Bool.{cases_lt}
use Rattle.std.proofs.lemmas.Option.{same_Some}
use Rattle.waff_model.specs.declared.message.Version.{Version}
use Rattle.waff_model.specs.declared.message.Version.TheVariants.{V1, V2, V3, V4}
use Rattle.waff_assign.specs.Held.{ExcludeEachOther}
use Rattle.waff_assign.specs.Order.{IsOrdered, held_of}
use Rattle.waff_assign.proofs.Holding.{exclude_sym}
use Rattle.waff_plan.specs.Apart.{AreApart}
use Rattle.waff_plan.specs.Obeys.{AwaitsEarlier}
use Rattle.waff_plan.specs.Serving.{served_before}
use Rattle.waff_plan.specs.Work.{Work, IsAmongFirst, IsNumber, finish_of}
use Rattle.waff_plan.specs.Workers.{running, runs_at}
use Rattle.waff_plan.proofs.ApartLaws.{apart_where_finished, turned}
use Rattle.waff_line.specs.Machine.{Course}
use Rattle.waff_line.specs.Turns.{AreRunTurns}
use Rattle.waff_line.specs.declared.turn.Turn.{Turn}
use Rattle.waff_line.proofs.Scaling.{earlier_scaled}
use Rattle.waff_line.proofs.Seating.{few_run}
use Rattle.waff_record.specs.Laws.{IsRunCourse, RoundingTells, measured_by, run_order}
use Rattle.waff_record.specs.Rounded.{GoesBefore, IsRounded}
use Rattle.waff_record.specs.Turns.{turn_at}
use Rattle.waff_record.proofs.Ran.{ran_alone, ran_apart, ran_order, ran_some, ran_there}

module _ (course : Course) (ticks : Work) (tick : ℕ) (turns : List Turn) (is : IsRunCourse course ticks tick) (ran : AreRunTurns course turns) where
  pub count_is : course.work.count ≡ ticks.count
  count_is = ap (λ (work : Work). work.count) is.work_is

  pub many_is : length course.assigned ≡ course.work.count
  many_is = is.many ∙ sym count_is

  pub earlier_is : AwaitsEarlier course.work
  earlier_is = subst AwaitsEarlier (sym is.work_is) (earlier_scaled tick ticks is.earlier)

  -- of two messages one of which ended before the other began, and which exclude each other or ran on one worker, it goes before the other
  pub goes_before : (i j : ℕ) → IsAmongFirst course.work.count i → (turn_at turns i).finish ≤ (turn_at turns j).start
      → ExcludeEachOther course.tree (held_of course.assigned i) (held_of course.assigned j) ⊎ ((turn_at turns i).worker ≡ (turn_at turns j).worker)
      → GoesBefore course turns i j
  goes_before i j number done held = record {
    number = number;
    sooner = let runs = ran_some course turns ran i number in omega (arith, runs, done);
    held = held;
  }

  ordered_parts : (i j : ℕ) → IsOrdered course.tree course.assigned i j
      → IsAmongFirst course.work.count i × IsAmongFirst course.work.count j
      × ExcludeEachOther course.tree (held_of course.assigned i) (held_of course.assigned j)
  ordered_parts i j pair =
      let many = many_is in (
        record { from = pair.from; to = omega (arith, pair.earlier, pair.to, many) },
        record { from = omega (arith, pair.from, pair.earlier); to = omega (arith, pair.to, many) },
        pair.excludes,
      )

  -- the numbers of a pair in the order of the run, and that they exclude each other
  pair_parts : (version : Version) (i j : ℕ) → served_before version course.tree course.assigned (measured_by course turns) (λ n. (turn_at turns n).start) i j
      → IsAmongFirst course.work.count i × IsAmongFirst course.work.count j
      × ExcludeEachOther course.tree (held_of course.assigned i) (held_of course.assigned j)
  pair_parts V1 i j pair = ordered_parts i j pair
  pair_parts V2 i j pair = ordered_parts i j pair
  pair_parts V3 i j pair = (pair.first, pair.second, pair.excludes)
  pair_parts V4 i j pair = (pair.first, pair.second, pair.excludes)

  module _ (work : Work) (start : ℕ → ℕ) (rounded : IsRounded course ticks tick turns work start) where
    pub number_told : (m : ℕ) → IsAmongFirst course.work.count m → IsNumber work m
    number_told m number = record { from = number.from; to = omega (arith, number.to, count_is, rounded.work_is.count) }

    pub number_ran : (m : ℕ) → IsNumber work m → IsAmongFirst course.work.count m
    number_ran m number = record { from = number.from; to = omega (arith, number.to, count_is, rounded.work_is.count) }

    finished : (i j : ℕ) → IsAmongFirst course.work.count j → GoesBefore course turns i j → finish_of work start i ≤ start j
    finished i j number before = (rounded.told j (number_told j number)).may.after i before

    order : (i j : ℕ) → run_order course turns i j → finish_of work start i ≤ start j
    order i j pair =
        let parts = pair_parts course.version i j pair in
        finished i j parts.1
        (goes_before i j parts.0 (ran_order course turns ran earlier_is i j parts.0.from parts.1.from pair) (inl parts.2))

    apart : AreApart (IsOrdered course.tree course.assigned) work start
    apart i j pair =
        let parts = ordered_parts i j pair.ordered in
        let less = pair.ordered.earlier in
        elim (cases_lt (turn_at turns j).start (turn_at turns i).start) [
          | inl later ↦
              let excludes = exclude_sym course.tree (held_of course.assigned i) (held_of course.assigned j) parts.2 in
              let done = ran_apart course turns ran many_is j i (λ same. omega (arith, same, less)) parts.1 parts.0 excludes (omega (arith, later)) in
              apart_where_finished work start j i (finished j i parts.0 (goes_before j i parts.1 done (inl excludes))) (turned work start i j pair.together)
          | inr sooner ↦
              let done = ran_apart course turns ran many_is i j (λ same. omega (arith, same, less)) parts.0 parts.1 parts.2 sooner in
              apart_where_finished work start i j (finished i j parts.1 (goes_before i j parts.0 done (inl parts.2))) pair.together
        ]

    -- messages of one worker do not run together
    alone : (i j : ℕ) → IsAmongFirst course.work.count i → IsAmongFirst course.work.count j → i < j → (turn_at turns i).worker ≡ (turn_at turns j).worker
        → (t : ℕ) → runs_at work start t i ≡ true → runs_at work start t j ≡ true → ⊥
    alone i j first second less same t runs_i runs_j = elim (cases_lt (turn_at turns j).start (turn_at turns i).start) [
      | inl later ↦
          let done = ran_alone course turns ran j i (λ one. omega (arith, one, less)) second first (sym same) (omega (arith, later)) in
          apart_where_finished work start j i (finished j i first (goes_before j i second done (inr (sym same)))) (t, runs_j, runs_i)
      | inr sooner ↦
          let done = ran_alone course turns ran i j (λ one. omega (arith, one, less)) first second same sooner in
          apart_where_finished work start i j (finished i j second (goes_before i j first done (inr same))) (t, runs_i, runs_j)
    ]

    within : (t : ℕ) → running work start t ≤ course.workers
    within t =
        few_run (runs_at work start t) (λ n. (turn_at turns n).worker - 1) 1 work.count course.workers
        (λ i j low less high runs_i runs_j same.
        let first = number_ran i (record { from = low; to = omega (arith, less, high) }) in
        let second = number_ran j (record { from = omega (arith, low, less); to = omega (arith, high) }) in
        let one = ran_there course turns ran i first in
        let other = ran_there course turns ran j second in
        alone i j first second less (omega (arith, same, one.from, other.from)) t runs_i runs_j)
        (λ n low high runs.
        let there = ran_there course turns ran n (number_ran n (record { from = low; to = omega (arith, high) })) in
        omega (arith, there.from, there.to))

pub rounding_tells : (course : Course) (ticks : Work) (tick : ℕ) (turns : List Turn) → RoundingTells course ticks tick turns
rounding_tells course ticks tick turns is ran work start rounded = record {
  issued = λ m number. (rounded.told m number).may.issued;
  runs = λ m number. let finish = (rounded.told m number).finish in omega (arith, finish);
  order = order course ticks tick turns is ran work start rounded;
  within = within course ticks tick turns is ran work start rounded;
  seated = record {
    each = λ n number. let there = ran_there course turns ran n (number_ran course ticks tick turns is ran work start rounded n number) in (there.from, there.to);
    apart = λ i j w ni nj less wi wj together.
        alone course ticks tick turns is ran work start rounded i j (number_ran course ticks tick turns is ran work start rounded i ni)
        (number_ran course ticks tick turns is ran work start rounded j nj) less (same_Some _ _ (wi ∙ sym wj)) together.0 together.1 together.2;
  };
  apart = apart course ticks tick turns is ran work start rounded;
}

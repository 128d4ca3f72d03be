-- One message of a run after another is told, in the order in which they began.
use Rattle.std.proofs.Common.{◌≡◌, ℕ, ◌+◌, ◌-◌, ◌/◌, ◌<◌, ◌≤◌, inl, inr, max, List, length, map, Contains, Option, arith, refl, sym, ◌∙◌, ap, subst}
use Rattle.std.proofs.lemmas.Bool.{cases_eq}
use Rattle.std.proofs.Math.ListN.{get_or-map}
use Rattle.waff_plan.specs.ByStart.{AreByStart, started_at}
use Rattle.waff_plan.specs.Obeys.{AwaitsEarlier}
use Rattle.waff_plan.specs.Table.{IsLatestExcluding}
use Rattle.waff_model.specs.declared.message.Message.{Message}
use Rattle.waff_plan.specs.Timetable.{Timetable, starts_in, timing_at, timings_of, with_cost, with_turn, work_in}
use Rattle.waff_plan.specs.Timing.{start_of, work_of}
use Rattle.waff_plan.specs.Work.{IsAmongFirst, finish_of, issue_of}
use Rattle.waff_plan.specs.declared.latest.Latest.{Latest}
use Rattle.waff_plan.specs.declared.sequence.Started.{Started}
use Rattle.waff_plan.specs.declared.timing.Timing.{Timing}
use Rattle.waff_plan.proofs.ApartLaws.{number_here}
use Rattle.waff_plan.proofs.Noted.{AreNoted}
use Rattle.waff_plan.proofs.TimingLemmas.{length-timings_of, timing_is}
use Rattle.waff_line.specs.declared.turn.Turn.{Turn}
use Rattle.waff_record.specs.Begun.{AreBegun}
use Rattle.waff_record.specs.Laws.{IsRunCourse}
use Rattle.waff_record.specs.Ran.{AreTimingsOf, HasRun, IsTimely, IsToldOf, course_run, ticks_run}
use Rattle.waff_record.specs.Rounded.{HasOtherCosts, IsTold}
use Rattle.waff_record.specs.Turns.{no_turn, turn_at}
use Rattle.waff_record.specs.declared.rounding.TheConstants.{MAX_RUN}
use Rattle.waff_record.specs.declared.turns.RunTurns.{RunTurns}
use Rattle.waff_record.proofs.Counted.{turns_of_all}
use Rattle.waff_record.proofs.Pass.{IsFreeFrom, StartsFrom}
use Rattle.waff_record.proofs.Placing.{count_stays, starts_stay, timings_stay}
use Rattle.waff_record.proofs.Ran.{ran_there}
use Rattle.waff_record.proofs.Walking.{all_told, here_finishes, noted_stay, number_at, other_costs, place_of, told_more}

-- the start of message n in a list of the starts of turns
abbrev begins : List Turn → ℕ → ℕ
begins turns = start_of (map (λ turn. turn.start) turns)

begins_is : (turns : List Turn) (n : ℕ) → begins turns n ≡ (turn_at turns n).start
begins_is turns n = get_or-map (λ (turn : Turn). turn.start) turns (n - 1) no_turn

pub turns_many : (run : RunTurns) → HasRun run → length run.turns.now ≡ length run.case.trace.now.messages
turns_many run ran = turns_of_all (course_run run) run.turns.now ran ∙ length-timings_of run.case.trace.now.messages

module _ (run : RunTurns) (ran : HasRun run) (began : List Started) (begun : AreBegun run.turns.now began) where
  abbrev messages : ℕ
  messages = length run.case.trace.now.messages

  pub counted : (course_run run).work.count ≡ messages
  counted = length-timings_of run.case.trace.now.messages

  pub in_order : AreByStart (course_run run).work (begins run.turns.now) began
  in_order = begun (course_run run).work (counted ∙ sym (turns_many run ran))

  pub began_counted : length began ≡ messages
  began_counted = in_order.long ∙ counted

  -- the message at a place
  pub number_of : (count : ℕ) → count ≡ messages → (place m : ℕ) → place < messages → m ≡ (started_at began place).number → IsAmongFirst count m
  number_of count is place m less here =
      let number = number_here (course_run run).work (begins run.turns.now) began in_order place (omega (arith, less, began_counted)) in
      let from = number.from in
      let to = number.to in
      record { from = omega (arith, here, from); to = omega (arith, here, to, is, counted) }

  -- its worker
  pub worker_there : (place m : ℕ) (turn : Turn) → place < messages → m ≡ (started_at began place).number → turn ≡ turn_at run.turns.now m
      → IsAmongFirst run.workers turn.worker
  worker_there place m turn less here is =
      subst (λ (t : Turn). IsAmongFirst run.workers t.worker) (sym is)
      (ran_there (course_run run) run.turns.now ran m (number_of (course_run run).work.count counted place m less here))

  module _ (timings : List Timing) (timings_are : timings ≡ timings_of run.case.trace.now.messages) (earlier : AwaitsEarlier (work_of timings)) where
    pub is_run : IsRunCourse (course_run run) (ticks_run run) run.tick
    is_run = record {
      work_is = refl;
      earlier = subst (λ (ts : List Timing). AwaitsEarlier (work_of ts)) timings_are earlier;
      many = run.case.lengths ∙ sym (length-timings_of run.case.trace.now.messages);
    }

    -- what is told of the messages before a place, in a plan
    abbrev AreTold : Timetable → ℕ → Type 0
    AreTold plan place =
        (p : ℕ) → p < place → IsTold (course_run run) run.tick run.turns.now (work_in plan) (starts_in plan) (started_at began p).number

    abbrev ArePunctual : Timetable → ℕ → Type 0
    ArePunctual plan place = (p : ℕ) → p < place → finish_of (work_in plan) (starts_in plan) (started_at began p).number ≤ MAX_RUN

    module _ (plan new : Timetable) (place m start cost : ℕ) (noted : List ℕ) (less : place < messages) (here : m ≡ (started_at began place).number)
        (are_noted : AreNoted began (λ i. Unit {0}) place noted) (costs : HasOtherCosts (ticks_run run) (work_in plan)) (long : length plan.starts ≡ length plan.timings)
        (told : AreTold plan place) (new_is : new ≡ with_turn plan m start cost) where
      within : place < length began
      within = omega (arith, less, began_counted)

      count : length plan.timings ≡ (course_run run).work.count
      count = costs.count

      next_is : new ≡ with_turn plan (started_at began place).number start cost
      next_is = new_is ∙ ap (λ k. with_turn plan k start cost) here

      pub new_costs : HasOtherCosts (ticks_run run) (work_in new)
      new_costs =
          subst (λ (p : Timetable). HasOtherCosts (ticks_run run) (work_in p)) (sym next_is)
          (other_costs (course_run run) (ticks_run run) run.tick run.turns.now is_run ran began (begins run.turns.now) (begins_is run.turns.now) in_order place within noted are_noted
          plan costs long count told start cost)

      pub new_long : length new.starts ≡ length new.timings
      new_long =
          subst (λ (p : Timetable). length p.starts ≡ length p.timings) (sym new_is)
          (starts_stay plan m start cost ∙ (long ∙ sym (count_stays plan m start cost)))

      pub new_stay : (i : ℕ) → Contains noted i → finish_of (work_in new) (starts_in new) i ≡ finish_of (work_in plan) (starts_in plan) i
      new_stay =
          subst (λ (p : Timetable). (i : ℕ) → Contains noted i → finish_of (work_in p) (starts_in p) i ≡ finish_of (work_in plan) (starts_in plan) i) (sym next_is)
          (noted_stay (course_run run) (ticks_run run) run.tick run.turns.now is_run ran began (begins run.turns.now) (begins_is run.turns.now) in_order place within noted are_noted
          plan costs long count told start cost)

      pub new_finish : finish_of (work_in new) (starts_in new) m ≡ start + cost
      new_finish =
          subst (λ (p : Timetable). finish_of (work_in p) (starts_in p) m ≡ start + cost) (sym next_is)
          (subst (λ k. finish_of (work_in (with_turn plan (started_at began place).number start cost)) (starts_in (with_turn plan (started_at began place).number start cost)) k ≡ start + cost)
          (sym here)
          (here_finishes (course_run run) (ticks_run run) run.tick run.turns.now is_run ran began (begins run.turns.now) (begins_is run.turns.now) in_order place within noted are_noted
          plan costs long count told start cost))

      -- timings stay those of the messages but for their costs
      pub new_timings : AreTimingsOf run.case.trace.now.messages plan.timings → AreTimingsOf run.case.trace.now.messages new.timings
      new_timings are =
          let at = number_at (course_run run) (ticks_run run) run.tick run.turns.now is_run ran began (begins run.turns.now) (begins_is run.turns.now) in_order place within in
          subst (λ (p : Timetable). AreTimingsOf run.case.trace.now.messages p.timings) (sym next_is)
          (timings_stay plan (started_at began place).number start cost (record { from = at.from; to = omega (arith, at.to, count) }) run.case.trace.now.messages are)

      -- and none that was told finishes too late
      pub new_timely : ArePunctual plan place → start + cost ≤ MAX_RUN → ArePunctual new (place + 1)
      new_timely are early p before = elim (cases_eq p place) [
        | inl at ↦
            let same : finish_of (work_in new) (starts_in new) (started_at began p).number ≡ start + cost
            = ap (λ k. finish_of (work_in new) (starts_in new) (started_at began k).number) at
            ∙ ap (finish_of (work_in new) (starts_in new)) (sym here) ∙ new_finish in
            omega (arith, same, early)
        | inr off ↦
            let sooner : p < place = omega (arith, before, off) in
            omega (arith, are p sooner, new_stay (started_at began p).number (are_noted.all p sooner tt))
      ]

      pub new_told : (turn : Turn) → turn ≡ turn_at run.turns.now m → (latest : Option Latest)
          → IsLatestExcluding run.case.tree.now run.case.assigned.now (finish_of (work_in plan) (starts_in plan)) noted m latest
          → (free : ℕ) → IsFreeFrom run.turns.now (finish_of (work_in plan) (starts_in plan)) noted (turn_at run.turns.now m).worker free
          → (issue : ℕ) → issue ≡ issue_of (work_in plan) (starts_in plan) m
          → StartsFrom latest (max (turn.start / run.tick) (max issue free)) start
          → start + cost ≡ max (turn.finish / run.tick) (start + 1) → AreTold new (place + 1)
      new_told turn turn_is latest found free is_free issue issue_is starts finishes =
          let at = (started_at began place).number in
          let work = work_in plan in
          let starting = starts_in plan in
          let turn_at_is : turn ≡ turn_at run.turns.now at = turn_is ∙ ap (turn_at run.turns.now) here in
          let from : max (turn.start / run.tick) (max issue free) ≡ max ((turn_at run.turns.now at).start / run.tick) (max (issue_of work starting at) free)
          = ap (λ (t : Turn). max (t.start / run.tick) (max issue free)) turn_at_is
          ∙ ap (λ i. max ((turn_at run.turns.now at).start / run.tick) (max i free)) (issue_is ∙ ap (issue_of work starting) here) in
          subst (λ (p : Timetable). AreTold p (place + 1)) (sym next_is)
          (told_more (course_run run) (ticks_run run) run.tick run.turns.now is_run ran began (begins run.turns.now) (begins_is run.turns.now) in_order place within noted are_noted
          plan costs long count told start cost latest
          (subst (λ k. IsLatestExcluding run.case.tree.now run.case.assigned.now (finish_of work starting) noted k latest) here found)
          free (subst (λ k. IsFreeFrom run.turns.now (finish_of work starting) noted (turn_at run.turns.now k).worker free) here is_free)
          (max ((turn_at run.turns.now at).start / run.tick) (max (issue_of work starting at) free)) refl
          (subst (λ a. StartsFrom latest a start) from starts)
          (finishes ∙ ap (λ (t : Turn). max (t.finish / run.tick) (start + 1)) turn_at_is))

    -- when all are told
    pub told_all : (plan : Timetable) (place : ℕ) → messages ≤ place → HasOtherCosts (ticks_run run) (work_in plan) → AreTold plan place → IsToldOf run plan
    told_all plan place all costs told =
        all_told (course_run run) (ticks_run run) run.tick run.turns.now is_run ran began (begins run.turns.now) (begins_is run.turns.now) in_order (work_in plan) (starts_in plan)
        place (omega (arith, all, began_counted)) costs costs.count told

    pub all_timely : (plan : Timetable) (place : ℕ) → messages ≤ place → HasOtherCosts (ticks_run run) (work_in plan) → ArePunctual plan place → IsTimely plan
    all_timely plan place all costs are n number =
        let there = place_of (course_run run) (ticks_run run) run.tick run.turns.now is_run ran began (begins run.turns.now) (begins_is run.turns.now) in_order n
        (record { from = number.from; to = omega (arith, number.to, costs.count) }) in
        subst (λ k. finish_of (work_in plan) (starts_in plan) k ≤ MAX_RUN) there.2 (are there.0 (omega (arith, there.1, all, began_counted)))

-- the timings of messages are theirs
pub timings_first : (messages : List Message) (timings : List Timing) → timings ≡ timings_of messages → AreTimingsOf messages timings
timings_first messages timings is =
    subst (AreTimingsOf messages) (sym is)
    (record {
      count = length-timings_of messages;
      each = λ n among.
          let at = timing_is messages n among in
          at ∙ ap (λ (t : Timing). with_cost (timing_at messages n) t.cost) (sym at);
    })

-- the work of other timings that are the same
pub costs_first : (run : RunTurns) (plan : Timetable) → plan.timings ≡ timings_of run.case.trace.now.messages → HasOtherCosts (ticks_run run) (work_in plan)
costs_first run plan is =
    subst (λ (ts : List Timing). HasOtherCosts (ticks_run run) (work_of ts)) (sym is)
    (record { count = refl; floor = λ m. refl; awaits = λ m. refl })

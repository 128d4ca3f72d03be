-- What the turns of a run say, message by message.
use Rattle.std.proofs.Common.{◌≡◌, ◌≢◌, ℕ, zero, suc, ◌-◌, ◌<◌, ◌≤◌, inl, inr, List, [], ◌∷◌, length, map, get_or, arith, refl, sym, ◌∙◌, ap, subst}
use Rattle.waff_model.specs.declared.message.Version.{Version}
use Rattle.waff_model.specs.declared.message.Version.TheVariants.{V1, V2, V3, V4}
use Rattle.waff_assign.specs.Held.{ExcludeEachOther}
use Rattle.waff_assign.specs.Order.{held_of}
use Rattle.waff_plan.specs.Issues.{IsServedBefore}
use Rattle.waff_plan.specs.Obeys.{AwaitsEarlier}
use Rattle.waff_plan.specs.Serving.{served_before}
use Rattle.waff_plan.specs.Work.{IsAmongFirst, IsAwaited, finish_of, issue_of}
use Rattle.waff_plan.proofs.Holding.{awaited-le-issue, issue_again}
use Rattle.waff_plan.proofs.StartOrder.{apart_finish}
use Rattle.waff_line.specs.Machine.{Course, finish_in, measured, start_in, turn_of}
use Rattle.waff_line.specs.Machine as machine
use Rattle.waff_line.specs.Noted.{shown}
use Rattle.waff_line.specs.Turns.{AreRunTurns}
use Rattle.waff_line.specs.declared.turn.Turn.{Turn}
use Rattle.waff_record.specs.Laws.{measured_by, run_order}
use Rattle.waff_record.specs.Turns.{no_turn, turn_at}

pub shown_at : (turns : List Turn) (k : ℕ) → get_or (map shown turns) k machine.no_turn ≡ shown (get_or turns k no_turn)
shown_at [] k = refl
shown_at (turn ∷ turns) zero = refl
shown_at (turn ∷ turns) (suc k) = shown_at turns k

module _ (course : Course) (turns : List Turn) (ran : AreRunTurns course turns) where
  seen : (n : ℕ) → 1 ≤ n → turn_of ran.state n ≡ shown (turn_at turns n)
  seen zero from = absurd (omega (arith, from))
  seen (suc k) from =
      let same : k ≡ suc k - 1 = omega arith in
      ap (λ (ts : List machine.Turn). get_or ts k machine.no_turn) (sym ran.shown) ∙ shown_at turns k ∙ ap (λ i. shown (get_or turns i no_turn)) same

  start_is : (n : ℕ) → 1 ≤ n → start_in ran.state n ≡ (turn_at turns n).start
  start_is n from = ap (λ (turn : machine.Turn). turn.start) (seen n from)

  finish_is : (n : ℕ) → 1 ≤ n → finish_in ran.state n ≡ (turn_at turns n).finish
  finish_is n from = ap (λ (turn : machine.Turn). turn.finish) (seen n from)

  worker_is : (n : ℕ) → 1 ≤ n → (turn_of ran.state n).worker ≡ (turn_at turns n).worker
  worker_is n from = ap (λ (turn : machine.Turn). turn.worker) (seen n from)

  -- each message ran for a time
  pub ran_some : (n : ℕ) → IsAmongFirst course.work.count n → (turn_at turns n).start < (turn_at turns n).finish
  ran_some n number =
      let from = number.from in
      omega (arith, ran.planned.runs n number, start_is n from, finish_is n from)

  -- on one of the workers
  pub ran_there : (n : ℕ) → IsAmongFirst course.work.count n → IsAmongFirst course.workers (turn_at turns n).worker
  ran_there n number = subst (IsAmongFirst course.workers) (worker_is n number.from) (ran.planned.seated n number).worker

  -- of two messages of one worker the one that began first ended before the other began
  pub ran_alone : (i j : ℕ) → i ≢ j → IsAmongFirst course.work.count i → IsAmongFirst course.work.count j
      → (turn_at turns i).worker ≡ (turn_at turns j).worker → (turn_at turns i).start ≤ (turn_at turns j).start
      → (turn_at turns i).finish ≤ (turn_at turns j).start
  ran_alone i j unlike first second same sooner =
      let i_start = start_is i first.from in
      let j_start = start_is j second.from in
      let i_finish = finish_is i first.from in
      let j_finish = finish_is j second.from in
      let runs = ran_some j second in
      elim ((ran.planned.seated j second).alone i first unlike (worker_is i first.from ∙ same ∙ sym (worker_is j second.from))) [
        | inl done ↦ omega (arith, done, i_finish, j_start)
        | inr after ↦ absurd (omega (arith, after, i_start, j_finish, runs, sooner))
      ]

  -- and of two that exclude each other
  pub ran_apart : length course.assigned ≡ course.work.count → (i j : ℕ) → i ≢ j → IsAmongFirst course.work.count i → IsAmongFirst course.work.count j
      → ExcludeEachOther course.tree (held_of course.assigned i) (held_of course.assigned j)
      → (turn_at turns i).start ≤ (turn_at turns j).start → (turn_at turns i).finish ≤ (turn_at turns j).start
  ran_apart many i j unlike first second excludes sooner =
      let i_start = start_is i first.from in
      let j_start = start_is j second.from in
      let i_finish = finish_is i first.from in
      let runs = ran_some i first in
      let one : IsAmongFirst (length course.assigned) i = record { from = first.from; to = omega (arith, first.to, many) } in
      let other : IsAmongFirst (length course.assigned) j = record { from = second.from; to = omega (arith, second.to, many) } in
      let done = apart_finish course.tree course.assigned (measured course ran.state) many ran.planned.runs (start_in ran.state) ran.planned.apart i j unlike one other excludes
      (omega (arith, i_start, j_start, sooner)) in
      omega (arith, done, i_start, j_start, i_finish, runs)

  -- what a message awaits ended before it began
  pub ran_after : (i m : ℕ) → 1 ≤ i → IsAmongFirst course.work.count m → IsAwaited (course.work.awaits m) i
      → (turn_at turns i).finish ≤ (turn_at turns m).start
  ran_after i m from number awaited =
      let issued = ran.planned.plan.obeys.issued m number in
      let held = awaited-le-issue (measured course ran.state) (start_in ran.state) i m awaited in
      omega (arith, issued, held, finish_is i from, start_is m number.from)

  -- issues are those of the state
  pub issue_seen : AwaitsEarlier course.work → (m : ℕ)
      → issue_of (measured course ran.state) (start_in ran.state) m ≡ issue_of (measured_by course turns) (λ n. (turn_at turns n).start) m
  issue_seen earlier m =
      issue_again (finish_of (measured course ran.state) (start_in ran.state)) (finish_of (measured_by course turns) (λ n. (turn_at turns n).start))
      (course.work.floor m) (course.work.awaits m)
      (λ i awaited.
      let from = (earlier i m awaited).from in
      let one = start_is i from in
      let two = finish_is i from in
      omega (arith, one, two))

  served_seen : AwaitsEarlier course.work → (i j : ℕ)
      → IsServedBefore course.tree course.assigned (measured_by course turns) (λ n. (turn_at turns n).start) i j
      → IsServedBefore course.tree course.assigned (measured course ran.state) (start_in ran.state) i j
  served_seen earlier i j pair = record {
    first = pair.first;
    second = pair.second;
    precedes =
        let one = issue_seen earlier i in
        let two = issue_seen earlier j in
        elim pair.precedes [
          | inl less ↦ inl (omega (arith, one, two, less))
          | inr same ↦ inr (omega (arith, one, two, same.0), same.1)
        ];
    excludes = pair.excludes;
  }

  -- the order of the run is that of the state
  order_seen : AwaitsEarlier course.work → (version : Version) → (i j : ℕ)
      → served_before version course.tree course.assigned (measured_by course turns) (λ n. (turn_at turns n).start) i j
      → served_before version course.tree course.assigned (measured course ran.state) (start_in ran.state) i j
  order_seen earlier V1 i j pair = pair
  order_seen earlier V2 i j pair = pair
  order_seen earlier V3 i j pair = served_seen earlier i j pair
  order_seen earlier V4 i j pair = served_seen earlier i j pair

  -- what was served first ended before the other began
  pub ran_order : AwaitsEarlier course.work → (i j : ℕ) → 1 ≤ i → 1 ≤ j → run_order course turns i j
      → (turn_at turns i).finish ≤ (turn_at turns j).start
  ran_order earlier i j from second pair =
      let done = ran.planned.plan.obeys.ordered i j (order_seen earlier course.version i j pair) in
      omega (arith, done, finish_is i from, start_is j second)

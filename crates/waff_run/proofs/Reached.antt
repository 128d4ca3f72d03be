-- The state of the line of a run, as its threads share it: events led to it.
use Rattle.std.proofs.Common.{◌≡◌, ℕ, zero, suc, ◌<◌, ◌≤◌, inl, inr, true, false, List, [], ◌∷◌, ◌++◌, length, map, get_or, refl, ap, sym, ◌∙◌, subst, arith}
use Rattle.std.specs.Prelude.{All, MatchOption, MatchResult, Option, Some, Result, Ok}
use Rattle.std.proofs.lemmas.Bool.{cases_Bool, cases_lt, false≢true}
use Rattle.std.proofs.lemmas.List.{get_or-map, length-map}
use Rattle.std.proofs.lemmas.List.Elements.{All-get_or}
use Rattle.waff_assign.specs.Instance.{Instance}
use Rattle.waff_plan.specs.Timetable.{AreTimings, timings_of, work_of_messages}
use Rattle.waff_plan.proofs.TimingLemmas.{length-timings_of}
use Rattle.waff_line.specs.Laws.{AreAllEnded}
use Rattle.waff_line.specs.Lined.{LineValue, course_in}
use Rattle.waff_line.specs.Machine.{Course, IsCourse, IsRunning, NobodyMayBegin, Reaches, Runs, State, Steps, Turn, no_turn, opening, turn_of}
use Rattle.waff_line.specs.Noted.{shown}
use Rattle.waff_line.specs.Turns.{AreReached, AreRunTurns, course_by}
use Rattle.waff_line.specs.declared.event.Event.{Event}
use Rattle.waff_line.specs.declared.event.Event.TheVariants.{Begin, End}
use Rattle.waff_line.specs.declared.turn.Turn.{Turn as NotedTurn}
use Rattle.waff_line.proofs.Scaling.{earlier_scaled, none_scaled}
use Rattle.waff_line.proofs.Sound.{sound_reached}

-- one more event
runs_more : (course : Course) (s : State) (events : List Event) (t : State) (event : Event) (u : State)
    → Runs course s events t → Steps course t event u → Runs course s (events ++ event ∷ []) u
runs_more course s [] t event u same step = (u, subst (λ x. Steps course x event u) (sym same) step, refl)
runs_more course s (first ∷ events) t event u (v, leads, rest) step = (v, leads, runs_more course v events t event u rest step)

-- a line of a course, to whose state events led, before an event and after it
module _ (course : Course) (old new : LineValue) (same : course_in old ≡ course) (reached : Reaches course old.state) where
  pub reaches_more : (event : Event) → Steps (course_in old) old.state event new.state → Reaches course new.state
  reaches_more event step = (
    reached.0 ++ event ∷ [],
    runs_more course (opening course) reached.0 old.state event new.state reached.1
        (subst (λ (c : Course). Steps c old.state event new.state) same step),
  )

  pub reaches_same : new ≡ old → Reaches course new.state
  reaches_same is = subst (λ (line : LineValue). Reaches course line.state) (sym is) reached

  pub reaches_ended : (m now : ℕ) → (IsRunning old.state m → Steps (course_in old) old.state (End m now) new.state)
      → (¬ IsRunning old.state m → new ≡ old) → Reaches course new.state
  reaches_ended m now step other = elim (cases_lt 0 (turn_of old.state m).worker) [
    | inr none ↦ reaches_same (other (λ running. omega (arith, none, running.begun)))
    | inl begun ↦ elim (cases_Bool (turn_of old.state m).ended) [
      | inl ended ↦ reaches_same (other (λ running. false≢true (sym running.runs ∙ ended)))
      | inr runs ↦ reaches_more (End m now) (step (record { begun = omega (arith, begun); runs = runs }))
    ]
  ]

-- the step by which a message begins
pub begun_step : {E : Type 0} (old new : LineValue) (worker m : ℕ) (result : Result (Option ℕ) E)
    → MatchResult result
    (λ begun. MatchOption begun ((new ≡ old) × NobodyMayBegin (course_in old) old.state worker) (λ n. Steps (course_in old) old.state (Begin worker n) new.state))
    (λ _. (new.state ≡ old.state) × (new.over ≡ true)) → result ≡ Ok (Some m) → Steps (course_in old) old.state (Begin worker m) new.state
begun_step {E} old new worker m result holds is =
    subst
    (λ (r : Result (Option ℕ) E).
    MatchResult r
    (λ begun. MatchOption begun ((new ≡ old) × NobodyMayBegin (course_in old) old.state worker) (λ n. Steps (course_in old) old.state (Begin worker n) new.state))
    (λ _. (new.state ≡ old.state) × (new.over ≡ true)))
    is holds

-- a line of the course before anything has happened
pub reaches_opening : (course : Course) (line : LineValue) → course_in line ≡ course → line.state ≡ opening (course_in line) → Reaches course line.state
reaches_opening course line same opens = ([], sym (opens ∙ ap (λ (c : Course). opening c) same))

-- turns that such a line shows
pub are_reached : (course : Course) (line : LineValue) (noted : List NotedTurn) → Reaches course line.state → map shown noted ≡ line.state.turns
    → AreReached course noted
are_reached course line noted reached is = record { state = line.state; reached = reached; shown = is }

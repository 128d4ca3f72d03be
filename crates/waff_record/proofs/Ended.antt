-- Turns of a run all messages of which have ended, and the course of an instance.
use Rattle.std.proofs.Common.{◌≡◌, ℕ, zero, suc, ◌<◌, ◌≤◌, true, false, List, length, map, get_or, ap, sym, ◌∙◌, subst, arith}
use Rattle.std.specs.Prelude.{All}
use Rattle.std.proofs.lemmas.List.{get_or-map, length-map}
use Rattle.std.proofs.lemmas.List.Elements.{All-get_or}
use Rattle.waff_assign.specs.Instance.{Instance}
use Rattle.waff_plan.specs.Timetable.{AreTimings, timings_of, work_of_messages}
use Rattle.waff_plan.proofs.TimingLemmas.{length-timings_of}
use Rattle.waff_line.specs.Laws.{AreAllEnded}
use Rattle.waff_line.specs.Machine.{Course, IsCourse, State, Turn, no_turn}
use Rattle.waff_line.specs.Noted.{shown}
use Rattle.waff_line.specs.Turns.{AreReached, AreRunTurns, course_by}
use Rattle.waff_line.specs.declared.turn.Turn.{Turn as NotedTurn}
use Rattle.waff_line.proofs.Scaling.{earlier_scaled, none_scaled}
use Rattle.waff_line.proofs.Sound.{sound_reached}
use Rattle.waff_record.proofs.Planned.{AreLaws, planned}

none : NotedTurn
none = record { start = 0; finish = 0; worker = 0; after = 0; late = 0; ended = false }

-- where each turn that was noted has ended, all messages have
pub all_ended : (course : Course) (s : State) (noted : List NotedTurn) → map shown noted ≡ s.turns → length s.turns ≡ course.work.count
    → All (λ turn. turn.ended ≡ true) noted → AreAllEnded course s
all_ended course s noted is many all zero number = absurd (omega (arith, number.from))
all_ended course s noted is many all (suc k) number =
    let same : length (map shown noted) ≡ length s.turns = ap length is in
    let long : k < length noted = omega (arith, number.to, many, same, length-map noted shown) in
    ap (λ (turn : Turn). turn.ended) (ap (λ (turns : List Turn). get_or turns k no_turn) (sym is) ∙ get_or-map shown noted k none no_turn long)
    ∙ All-get_or (λ (turn : NotedTurn). turn.ended ≡ true) noted k none long all

pub run_turns : (course : Course) → IsCourse course → AreLaws course → (noted turns : List NotedTurn) → AreReached course noted
    → All (λ turn. turn.ended ≡ true) noted → turns ≡ noted → AreRunTurns course turns
run_turns course is laws noted turns there all same =
    let s = there.state in
    let ended : AreAllEnded course s = all_ended course s noted there.shown (sound_reached course is s there.reached).many all in
    subst (λ (ts : List NotedTurn). AreRunTurns course ts) (sym same) (record {
      events = there.reached.0;
      state = s;
      run = there.reached.1;
      shown = there.shown;
      ended = ended;
      planned = planned course is laws there.reached.0 s there.reached.1 ended;
    })

-- the course of an instance is one
pub is_course_by : (instance : Instance) (workers tick : ℕ) → AreTimings instance.trace.version (timings_of instance.trace.messages)
    → length instance.assigned ≡ length instance.trace.messages → 1 ≤ workers → IsCourse (course_by instance workers tick)
is_course_by instance workers tick timings long staffed = record {
  earlier = earlier_scaled tick (work_of_messages instance.trace.messages) timings.earlier;
  alone = λ without. none_scaled tick (work_of_messages instance.trace.messages) (timings.alone without);
  many = length-timings_of instance.trace.messages ∙ sym long;
  staffed = staffed;
}

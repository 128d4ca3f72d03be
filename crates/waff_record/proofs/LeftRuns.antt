-- What is left of a run is a run of the messages that are left.
use Rattle.std.proofs.Common.{◌≡◌, ℕ, zero, suc, ◌+◌, ◌-◌, ◌*◌, ◌<◌, ◌≤◌, List, [], ◌∷◌, length, map, get_or, refl, ap, sym, ◌∙◌, subst, arith}
use Rattle.std.proofs.Math.ListN.{length-replicate}
use Rattle.std.proofs.lemmas.List.{ext_get_or, get_or-map, length-map}
use Rattle.std.proofs.lemmas.List.Elements.{Contains-get_or}
use Rattle.waff_assign.specs.Instance.{Instance}
use Rattle.waff_plan.specs.Obeys.{AwaitsEarlier}
use Rattle.waff_plan.specs.Timetable.{work_of_messages}
use Rattle.waff_plan.specs.Work.{Await, IsAmongFirst, Work}
use Rattle.waff_plan.proofs.TimingLemmas.{length-timings_of}
use Rattle.waff_line.specs.Machine.{Course, opening, turn_of}
use Rattle.waff_line.specs.Machine as machine
use Rattle.waff_line.specs.Noted.{shown}
use Rattle.waff_line.specs.Scaled.{await_scaled, awaits_scaled, scaled}
use Rattle.waff_line.specs.Turns.{AreReached, course_by}
use Rattle.waff_line.specs.declared.turn.Turn.{Turn}
use Rattle.waff_line.proofs.Scaling.{earlier_scaled}
use Rattle.waff_record.specs.Left.{AreLeft, IsCutDown, IsIssuedAmong, LeftIsRun, await_kept, number_at, turns_kept}
use Rattle.waff_record.specs.Turns.{no_turn, turn_at}
use Rattle.waff_record.proofs.Cutting.{AreCourses, open_there, run_there, turns_stay}
use Rattle.waff_record.proofs.Ran.{shown_at}

-- as many turns are told as there are messages
pub turns_reached : (course : Course) (turns : List Turn) → AreReached course turns → length turns ≡ course.work.count
turns_reached course turns there =
    sym (length-map turns shown) ∙ ap length there.shown ∙ turns_stay course (opening course) there.state there.reached.0 there.reached.1
    ∙ length-replicate course.work.count machine.no_turn

seen_there : (course : Course) (turns : List Turn) (there : AreReached course turns) (n : ℕ) → 1 ≤ n → turn_of there.state n ≡ shown (turn_at turns n)
seen_there course turns there zero from = absurd (omega (arith, from))
seen_there course turns there (suc k) from =
    let same : k ≡ suc k - 1 = omega arith in
    ap (λ (ts : List machine.Turn). get_or ts k machine.no_turn) (sym there.shown) ∙ shown_at turns k ∙ ap (λ i. shown (get_or turns i no_turn)) same

-- in nanoseconds too messages are issued as they are among all
scaled_there : (kept : List ℕ) (tick : ℕ) (awaits : List Await) → map (await_kept kept) (awaits_scaled tick awaits) ≡ awaits_scaled tick (map (await_kept kept) awaits)
scaled_there kept tick [] = refl
scaled_there kept tick (a ∷ rest) = ap (λ (xs : List Await). await_kept kept (await_scaled tick a) ∷ xs) (scaled_there kept tick rest)

issued_scaled : (kept : List ℕ) (tick : ℕ) (work cut : Work) (k : ℕ) → IsIssuedAmong kept work cut k → IsIssuedAmong kept (scaled tick work) (scaled tick cut) k
issued_scaled kept tick work cut k is = record {
  floor = ap (λ floor. floor * tick) is.floor;
  awaits = scaled_there kept tick (cut.awaits k) ∙ ap (awaits_scaled tick) is.awaits;
}

module _ (instance : Instance) (k tick : ℕ) (turns : List Turn) (kept : List ℕ) (cut : Instance)
    (earlier : AwaitsEarlier (work_of_messages cut.trace.messages)) (there : AreReached (course_by instance k tick) turns) (left : AreLeft turns tick kept)
    (is : IsCutDown instance kept cut) where
  courses : AreCourses kept (course_by instance k tick) (course_by cut k tick)
  courses = record {
    version = is.trace.version;
    workers = refl;
    count = length-timings_of cut.trace.messages ∙ is.trace.count;
    among = λ m among.
        let number = ((left.each (number_at kept m)).0 (Contains-get_or kept (m - 1) 0 (omega (arith, among.from, among.to)))).0.number in
        subst (λ count. IsAmongFirst count (number_at kept m)) (turns_reached (course_by instance k tick) turns there) number;
    rising = λ i j from less to. left.rising (i - 1) (j - 1) (omega (arith, from, less)) (omega (arith, from, less, to));
    issued = λ m among. issued_scaled kept tick (work_of_messages instance.trace.messages) (work_of_messages cut.trace.messages) m (is.trace.issued m among);
    earlier = earlier_scaled tick (work_of_messages cut.trace.messages) earlier;
    excludes = λ i j first second. (is.excludes i j first second).0;
  }

  left_reached : AreReached (course_by cut k tick) (turns_kept turns kept)
  left_reached =
      let course = course_by instance k tick in
      let (events, u, runs, both) = run_there kept course (course_by cut k tick) courses (opening course) (opening (course_by cut k tick)) there.state there.reached.0
      (open_there kept course (course_by cut k tick) courses) there.reached.1 in
      let long : length (map shown (turns_kept turns kept)) ≡ length kept = length-map (turns_kept turns kept) shown ∙ length-map kept (turn_at turns) in
      record {
        state = u;
        reached = (events, runs);
        shown = ext_get_or machine.no_turn (map shown (turns_kept turns kept)) u.turns (long ∙ sym both.count) (λ p within.
            let less : p < length kept = omega (arith, within, long) in
            let number : IsAmongFirst (length kept) (suc p) = record { from = omega arith; to = omega (arith, less) } in
            let at : p ≡ suc p - 1 = omega arith in
            shown_at (turns_kept turns kept) p
            ∙ (ap shown (get_or-map (turn_at turns) kept p 0 no_turn less ∙ ap (λ i. turn_at turns (get_or kept i 0)) at)
            ∙ (sym (seen_there course turns there (number_at kept (suc p)) ((courses.among (suc p) number).from))
            ∙ sym (both.turn (suc p) number))));
      }

pub left_is_run : (instance : Instance) (k tick : ℕ) (turns : List Turn) (kept : List ℕ) (cut : Instance)
    → AwaitsEarlier (work_of_messages cut.trace.messages) → LeftIsRun instance k tick turns kept cut
left_is_run instance k tick turns kept cut earlier there left is = left_reached instance k tick turns kept cut earlier there left is

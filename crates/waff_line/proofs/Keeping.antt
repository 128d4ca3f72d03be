-- What the code does with a queue keeps it.
use Rattle.std.proofs.Common.{◌≡◌, ℕ, ◌+◌, ◌-◌, ◌<◌, ◌≤◌, inl, inr, Bool, false, true, List, [], ◌∷◌, ◌++◌, length, map, set, Contains, refl, ap, sym, ◌∙◌, subst, arith}
use Rattle.std.specs.List.{range_with_len}
use Rattle.std.specs.List.Sorted.{IsPermutation}
use Rattle.std.proofs.lemmas.Bool.{cases_Bool, cond-false, cond-true, false≢true}
use Rattle.std.proofs.lemmas.List.{length-map, map-id}
use Rattle.std.proofs.lemmas.List.FromFn.{map-range_with_len_more}
use Rattle.waff_model.specs.Preorder.{AreNested}
use Rattle.waff_model.specs.Tree.{Node}
use Rattle.waff_model.specs.Versions.{has_clients}
use Rattle.waff_model.specs.declared.message.Version.{Version}
use Rattle.waff_model.specs.declared.preorder.Span.{Span}
use Rattle.waff_assign.specs.Held.{AreKnown, Held, IsHeldWithin, nothing}
use Rattle.waff_assign.specs.Order.{held_of}
use Rattle.waff_assign.specs.declared.case.Case.{Case}
use Rattle.waff_order.specs.Joined.{Joined, HaveJoined}
use Rattle.waff_waits.specs.Waits.{IsFree as WaitsFree, WhoWaits, waiting_for}
use Rattle.waff_plan.specs.Due.{LeavesDue}
use Rattle.waff_plan.specs.Obeys.{AwaitsNone}
use Rattle.waff_plan.specs.Timetable.{AreTimings}
use Rattle.waff_plan.specs.Timing.{work_of}
use Rattle.waff_plan.specs.Work.{IsAmongFirst}
use Rattle.waff_plan.specs.declared.due.TheConstants.{NEVER}
use Rattle.waff_plan.specs.declared.timing.Timing.{Timing}
use Rattle.waff_line.specs.Lined.{course_in, AreFirstDue, AreOpened, IsAwaiting, IsLined, first_joined, issue_noted, latecomers}
use Rattle.waff_line.specs.Entered.{AreWaiting, HaveNoneCome, ready_in}
use Rattle.waff_line.specs.Machine.{Course, IsCourse, State, IsFree, IsRunning, MayBegin, NobodyMayBegin, Reaches, Runs, Steps, begun_on, ended_at, opening, told}
use Rattle.waff_line.specs.Noted.{CanBegin}
use Rattle.waff_line.specs.declared.event.Event.{Event}
use Rattle.waff_line.specs.Scaled.{scaled}
use Rattle.waff_line.specs.Queued.{IsQueue, course_of, value_by, value_of}
use Rattle.waff_line.specs.declared.queue.Queue.{Queue}
use Rattle.waff_line.specs.declared.waiting.Waiting.{Waiting}
use Rattle.waff_line.proofs.Entering.{due_begun, due_told}
use Rattle.waff_line.proofs.Lining.{lined_more}
use Rattle.waff_line.proofs.Readying.{none_may, ready_may, waiting_begun, waiting_told}
use Rattle.waff_line.proofs.Opening.{awaiting_begun, awaiting_told}
use Rattle.waff_line.proofs.Queueing.{latecomers_all, latecomers_none, lined_begun, lined_ended_by_issue, lined_ended_by_number, lined_opening_by_issue, lined_opening_by_number, lined_told}
use Rattle.waff_line.proofs.Scaling.{earlier_scaled, none_scaled}
use Rattle.waff_line.proofs.Sound.{Sound, sound_reached}
use Rattle.waff_line.proofs.Turns.{begun_number}

pub first_by_issue : (version : Version) (count : ℕ) → has_clients version ≡ true → first_joined version count ≡ []
first_by_issue version count has = cond-true (has_clients version) [] (range_with_len 1 count) has

pub first_by_number : (version : Version) (count : ℕ) → has_clients version ≡ false → first_joined version count ≡ range_with_len 1 count
first_by_number version count none = cond-false (has_clients version) [] (range_with_len 1 count) none

-- when a run begins
pub lined_opening : (course : Course) (spans : List Span) (joining : Joined) (messages : List ℕ) (due : List (ℕ × ℕ))
    → (has_clients course.version ≡ false → AwaitsNone course.work) → course.work.count ≡ length course.assigned
    → messages ≡ first_joined course.version (length course.assigned)
    → HaveJoined course.tree spans (map (held_of course.assigned) messages) joining → AreFirstDue course.work course.work.count due
    → IsLined course (opening course) spans joining messages (latecomers course.version due)
lined_opening course spans joining messages due alone many are have first = elim (cases_Bool (has_clients course.version)) [
  | inl has ↦
      let empty : messages ≡ [] = are ∙ first_by_issue course.version (length course.assigned) has in
      subst (λ ms. IsLined course (opening course) spans joining ms (latecomers course.version due)) (sym empty)
      (subst (λ ws. IsLined course (opening course) spans joining [] ws) (sym (latecomers_all course.version due has))
      (lined_opening_by_issue course spans joining has due first
      (subst (λ ms. HaveJoined course.tree spans (map (held_of course.assigned) ms) joining) empty have)))
  | inr none ↦
      let all : messages ≡ range_with_len 1 course.work.count
      = are ∙ first_by_number course.version (length course.assigned) none ∙ ap (λ n. range_with_len 1 n) (sym many) in
      subst (λ ms. IsLined course (opening course) spans joining ms (latecomers course.version due)) (sym all)
      (subst (λ ws. IsLined course (opening course) spans joining (range_with_len 1 course.work.count) ws) (sym (latecomers_none course.version due none))
      (lined_opening_by_number course spans joining none (alone none)
      (subst (λ ms. HaveJoined course.tree spans (map (held_of course.assigned) ms) joining) all have)))
]

-- when a message ends
pub lined_ended : (course : Course) (s : State) (is : IsCourse course) (m now : ℕ) (sound : Sound course s) (running : IsRunning s m)
    (spans : List Span) (joining : Joined) (messages : List ℕ) (w after : WhoWaits) (awaiting : IsAwaiting course.work s w)
    (gone : after ≡ record { awaited = set w.awaited (m - 1) []; finished = set w.finished (m - 1) true }) (old new : List (ℕ × ℕ))
    → AreOpened (issue_noted course.work (ended_at s m now)) (WaitsFree (waiting_for w m) after) old new
    → IsLined course s spans joining messages (latecomers course.version old)
    → IsLined course (ended_at s m now) spans joining messages (latecomers course.version new)
lined_ended course s is m now sound running spans joining messages w after awaiting gone old new opened h = elim (cases_Bool (has_clients course.version)) [
  | inl has ↦
      subst (λ ws. IsLined course (ended_at s m now) spans joining messages ws) (sym (latecomers_all course.version new has))
      (lined_ended_by_issue course s spans joining messages old
      (subst (λ ws. IsLined course s spans joining messages ws) (latecomers_all course.version old has) h)
      is m now sound running has w after awaiting gone new opened)
  | inr none ↦
      subst (λ ws. IsLined course (ended_at s m now) spans joining messages ws)
      (latecomers_none course.version old none ∙ sym (latecomers_none course.version new none))
      (lined_ended_by_number course s spans joining messages (latecomers course.version old) h is m now sound running none)
]

-- what a message holds is of the tree, and so of the spans
pub held_within : (tree : List Node) (spans : List Span) (assigned : List Held) → AreNested tree spans → AreKnown tree assigned
    → (m : ℕ) → IsAmongFirst (length assigned) m → IsHeldWithin (length spans) (held_of assigned m)
held_within tree spans assigned nested known m number =
    let from = number.from in
    let to = number.to in
    subst (λ (n : ℕ). IsHeldWithin n (held_of assigned m)) (sym nested.count) (known (m - 1) nothing (omega (arith, from, to)))

-- one more event
runs_more : (course : Course) (s : State) (events : List Event) (t : State) (event : Event) (u : State)
    → Runs course s events t → Steps course t event u → Runs course s (events ++ event ∷ []) u
runs_more course s [] t event u same step = (u, subst (λ x. Steps course x event u) (sym same) step, refl)
runs_more course s (first ∷ events) t event u (v, leads, rest) step = (v, leads, runs_more course v events t event u rest step)

pub reaches_more : (course : Course) (s : State) (event : Event) (t : State) → Reaches course s → Steps course s event t → Reaches course t
reaches_more course s event t (events, runs) step = (events ++ event ∷ [], runs_more course (opening course) events s event t runs step)

-- one that is over
pub queue_over : (q : Queue) (workers : ℕ) (s : State) → q.is_over ≡ true → length q.timings.items ≡ length q.case.assigned.now
    → AreTimings q.case.trace.now.version q.timings.items → IsQueue q workers s
queue_over q workers s over many timings = record {
  many = many;
  timings = timings;
  awaiting = λ going. absurd (false≢true (sym going ∙ over));
  lined = λ going. absurd (false≢true (sym going ∙ over));
  entered = λ going. absurd (false≢true (sym going ∙ over));
}

module _ (q : Queue) (workers : ℕ) (s : State) (h : IsQueue q workers s) where
  pub is_course : 1 ≤ workers → IsCourse (course_of q workers)
  is_course staffed = record { earlier = earlier_scaled q.tick (work_of q.timings.items) h.timings.earlier; alone = λ without. none_scaled q.tick (work_of q.timings.items) (h.timings.alone without); many = h.many; staffed = staffed }

  pub queue_told : (now : ℕ) → IsQueue q workers (told s now)
  queue_told now = record {
    many = h.many;
    timings = h.timings;
    awaiting = λ going. awaiting_told (scaled q.tick (work_of q.timings.items)) s q.awaits (h.awaiting going) now;
    lined = λ going.
        lined_told (course_of q workers) s q.order.spans.now q.order.joining q.order.messages.items (latecomers q.case.trace.now.version q.due)
        (h.lined going) now;
    entered = λ going.
        let are = h.entered going in
        record {
          entered = are.entered;
          issued = due_told (course_of q workers) s are.entered q.due are.issued now;
          placed = are.placed;
          waiting = waiting_told (course_of q workers) s q.order.joining q.order.messages.items are.entered q.waiting.waits (ready_in q.waiting) are.waiting now;
        };
  }

  sound_begins : (x m : ℕ) → Reaches (course_of q workers) s → MayBegin (course_of q workers) s x m → Sound (course_of q workers) s
  sound_begins x m reached may =
      sound_reached (course_of q workers) (is_course (omega (arith, may.worker.from, may.worker.to))) s reached

  -- a message that was ready begins
  pub queue_begun : (x m : ℕ) → Reaches (course_of q workers) s → MayBegin (course_of q workers) s x m → (later : Waiting) → later.waits ≡ q.waiting.waits
      → IsPermutation (ready_in q.waiting) (m ∷ ready_in later)
      → IsQueue (record { case = q.case; timings = q.timings; tick = q.tick; awaits = q.awaits; order = q.order; due = q.due; waiting = later; is_over = q.is_over }) workers (begun_on s x m)
  queue_begun x m reached may later same popped =
      let course = course_of q workers in
      let sound = sound_begins x m reached may in
      record {
        many = h.many;
        timings = h.timings;
        awaiting = λ going. awaiting_begun (scaled q.tick (work_of q.timings.items)) s q.awaits (h.awaiting going) course x m sound may;
        lined = λ going.
            lined_begun course s q.order.spans.now q.order.joining q.order.messages.items (latecomers q.case.trace.now.version q.due)
            (h.lined going) x m sound may;
        entered = λ going.
            let are = h.entered going in
            record {
              entered = are.entered;
              issued = due_begun course s are.entered q.due are.issued x m sound may;
              placed = are.placed;
              waiting = subst (λ (w : WhoWaits). AreWaiting course (begun_on s x m) q.order.joining q.order.messages.items are.entered w (ready_in later)) (sym same)
                  (waiting_begun course s q.order.joining q.order.messages.items are.entered q.waiting.waits (ready_in q.waiting) are.waiting x m sound may
                  (ready_in later) popped);
            };
      }

  -- a message that is ready may begin on a worker that is free, and can
  pub queue_may : q.is_over ≡ false → Reaches (course_of q workers) s → (x m : ℕ) → Contains (ready_in q.waiting) m → IsAmongFirst workers x → IsFree s x
      → MayBegin (course_of q workers) s x m
  queue_may going reached x m listed worker free =
      let are = h.entered going in
      let sound = sound_reached (course_of q workers) (is_course (omega (arith, worker.from, worker.to))) s reached in
      ready_may (course_of q workers) s q.order.spans.now q.order.joining q.order.messages.items (latecomers q.case.trace.now.version q.due) (h.lined going)
      are.entered q.due are.issued are.placed q.waiting.waits (ready_in q.waiting) are.waiting sound x m listed worker free

  pub queue_can : s.clock < NEVER → Reaches (course_of q workers) s → (x m : ℕ) → MayBegin (course_of q workers) s x m → CanBegin s workers x m
  queue_can early reached x m may =
      let sound = sound_begins x m reached may in
      record {
        worker = may.worker;
        free = may.free;
        number = record { from = may.number.from; to = omega (arith, may.number.to, sound.many) };
        waits = may.waits;
        early = early;
      }

  -- and where none is ready and none is to come, none may
  pub queue_none : q.is_over ≡ false → ready_in q.waiting ≡ [] → HaveNoneCome q.case.trace.now.version s.clock q.due → (x : ℕ)
      → NobodyMayBegin (course_of q workers) s x
  queue_none going none come x =
      let are = h.entered going in
      none_may (course_of q workers) s q.order.spans.now q.order.joining q.order.messages.items (latecomers q.case.trace.now.version q.due) (h.lined going)
      are.entered q.due are.issued are.placed q.waiting.waits (ready_in q.waiting) are.waiting none come x

  -- the message at a place that has joined
  module _ (going : q.is_over ≡ false) where
    abbrev messages : List ℕ
    messages = q.order.messages.items

    abbrev course : Course
    course = course_of q workers

    line : IsLined course s q.order.spans.now q.order.joining messages (latecomers q.case.trace.now.version q.due)
    line = h.lined going

    pub counts : length q.order.joining.needs ≡ length messages
    counts = line.joined.needs.count ∙ length-map messages (held_of q.case.assigned.now)

    -- the first of those that are due joins
    module _ (has : has_clients q.case.trace.now.version ≡ true) (r : ℕ × ℕ) (rest : List (ℕ × ℕ)) (leaves : LeavesDue q.due r rest) where
      line_due : IsLined course s q.order.spans.now q.order.joining messages q.due
      line_due = subst (λ ws. IsLined course s q.order.spans.now q.order.joining messages ws) (latecomers_all q.case.trace.now.version q.due has) line

      pub joins_more : r.0 < s.clock → (after : Joined)
          → HaveJoined q.case.tree.now q.order.spans.now
          (map (held_of q.case.assigned.now) messages ++ held_of q.case.assigned.now r.1 ∷ []) after
          → IsLined course s q.order.spans.now after (messages ++ r.1 ∷ []) (latecomers q.case.trace.now.version rest)
      joins_more passed after have =
          subst (λ ws. IsLined course s q.order.spans.now after (messages ++ r.1 ∷ []) ws) (sym (latecomers_all q.case.trace.now.version rest has))
          (lined_more course s q.order.spans.now q.order.joining messages q.due line_due r rest leaves passed after have)

-- what a queue is of goes by its parts
pub course_same : (q other : Queue) (workers : ℕ) → other.case ≡ q.case → other.timings.items ≡ q.timings.items → other.tick ≡ q.tick
    → course_of other workers ≡ course_of q workers
course_same q other workers case timings tick =
    ap (λ (c : Case). course_in (value_by c other.timings.items other.tick false (fresh, workers))) case
    ∙ ap (λ (ts : List Timing). course_in (value_by q.case ts other.tick false (fresh, workers))) timings
    ∙ ap (λ (t : ℕ). course_in (value_by q.case q.timings.items t false (fresh, workers))) tick
  where
    fresh : State
    fresh = record { clock = 0; turns = [] }

-- and so does what is seen of it
pub value_same : (q other : Queue) (n : State × ℕ) → other.case ≡ q.case → other.timings.items ≡ q.timings.items → other.tick ≡ q.tick
    → other.is_over ≡ q.is_over → value_of other n ≡ value_of q n
value_same q other n case timings tick over =
    ap (λ (c : Case). value_by c other.timings.items other.tick other.is_over n) case
    ∙ ap (λ (ts : List Timing). value_by q.case ts other.tick other.is_over n) timings
    ∙ ap (λ (t : ℕ). value_by q.case q.timings.items t other.is_over n) tick
    ∙ ap (λ (b : Bool). value_by q.case q.timings.items q.tick b n) over

pub range_more : (a n j : ℕ) → a + n ≡ j → range_with_len a (n + 1) ≡ range_with_len a n ++ j ∷ []
range_more a n j is =
    sym (map-id (range_with_len a (n + 1))) ∙ map-range_with_len_more (λ x. x) a n j is ∙ ap (λ xs. xs ++ j ∷ []) (map-id (range_with_len a n))

pub running_number : (q : Queue) (workers : ℕ) (s : State) (h : IsQueue q workers s) → 1 ≤ workers → Reaches (course_of q workers) s
    → (m : ℕ) → IsRunning s m → IsAmongFirst (length q.timings.items) m
running_number q workers s h staffed reached m running =
    let sound = sound_reached (course_of q workers) (is_course q workers s h staffed) s reached in
    let number = begun_number s m running.begun in
    let from = number.from in
    let to = number.to in
    let many = sound.many in
    record { from = from; to = omega (arith, to, many) }

-- Each event of the code is one of the machine.
use Rattle.std.proofs.Common.{◌≡◌, ℕ, ◌-◌, ◌≤◌, true, false, List, [], ◌∷◌, ◌++◌, length, map, replicate, set, Contains, refl, ap, sym, ◌∙◌, subst}
use Rattle.std.specs.List.Sorted.{IsPermutation}
use Rattle.std.proofs.lemmas.List.{map_push}
use Rattle.std.proofs.lemmas.List.Sorted.{Contains-permutation, IsPermutation-sym}
use Rattle.waff_model.specs.Tree.{Node}
use Rattle.waff_model.specs.declared.preorder.Span.{Span}
use Rattle.waff_assign.specs.Held.{Held}
use Rattle.waff_assign.specs.Order.{held_of}
use Rattle.waff_order.specs.Joined.{Joined, HaveJoined}
use Rattle.waff_waits.specs.Times.{AreEach}
use Rattle.waff_waits.specs.Waits.{IsFree as WaitsFree, WhoWaits, waiting_for}
use Rattle.waff_waits.proofs.Each.{contains_first}
use Rattle.waff_plan.specs.Timing.{work_of}
use Rattle.waff_plan.specs.Work.{IsAmongFirst}
use Rattle.waff_line.specs.Entered.{AreWaiting, ready_in}
use Rattle.waff_line.specs.Lined.{AreOpened, issue_noted}
use Rattle.waff_line.specs.Machine.{Course, State, IsFree, IsRunning, MayBegin, Reaches, begun_on, ended_at, no_turn, opening, told}
use Rattle.waff_line.specs.Queued.{IsQueue, course_of}
use Rattle.waff_line.specs.Scaled.{scaled}
use Rattle.waff_line.specs.declared.event.Event.TheVariants.{Begin, End, Tell}
use Rattle.waff_line.specs.declared.queue.Queue.{Queue}
use Rattle.waff_line.specs.declared.waiting.Waiting.{Waiting}
use Rattle.waff_line.proofs.Entering.{due_ended}
use Rattle.waff_line.proofs.Keeping.{course_same, is_course, lined_ended, queue_begun, queue_may, queue_told, reaches_more}
use Rattle.waff_line.proofs.Opening.{awaiting_ended}
use Rattle.waff_line.proofs.Readying.{waiting_ended}
use Rattle.waff_line.proofs.Sound.{sound_reached}

-- the invariant of a line
abbrev pub Stands : Queue → State × ℕ → Type 0
Stands q n = IsQueue q n.1 n.0 × Reaches (course_of q n.1) n.0

module _ (q : Queue) (n : State × ℕ) (h : Stands q n) where
  pub stands_told : (now : ℕ) → (v : State × ℕ) → ◌≡◌ {A = State × ℕ} v (told n.0 now, n.1) → Stands q v
  stands_told now v is =
      subst (λ (p : State × ℕ). Stands q p) (sym is) (
        queue_told q n.1 n.0 h.0 now,
        reaches_more (course_of q n.1) n.0 (Tell now) (told n.0 now) h.1 refl,
      )

  -- what has come has joined
  pub stands_joined : (other : Queue) → other.case ≡ q.case → other.timings.items ≡ q.timings.items → other.tick ≡ q.tick → IsQueue other n.1 n.0
      → Stands other n
  stands_joined other case timings tick queue = (queue, subst (λ (c : Course). Reaches c n.0) (sym (course_same q other n.1 case timings tick)) h.1)

  -- where none is ready, none begins
  pub stands_none : (later : Waiting) → later.waits ≡ q.waiting.waits → ready_in q.waiting ≡ [] → ready_in later ≡ []
      → Stands (record { case = q.case; timings = q.timings; tick = q.tick; awaits = q.awaits; order = q.order; due = q.due; waiting = later; is_over = q.is_over }) n
  stands_none later same none after =
      let course = course_of q n.1 in (
        record {
          many = h.0.many;
          timings = h.0.timings;
          awaiting = h.0.awaiting;
          lined = h.0.lined;
          entered = λ going.
              let are = h.0.entered going in
              record {
                entered = are.entered;
                issued = are.issued;
                placed = are.placed;
                waiting = subst (λ (w : WhoWaits). AreWaiting course n.0 q.order.joining q.order.messages.items are.entered w (ready_in later)) (sym same)
                    (subst (λ rs. AreWaiting course n.0 q.order.joining q.order.messages.items are.entered q.waiting.waits rs) (none ∙ sym after) are.waiting);
              };
        },
        h.1,
      )

  pub begins : q.is_over ≡ false → (x m : ℕ) → IsAmongFirst n.1 x × IsFree n.0 x → (later : Waiting)
      → IsPermutation (ready_in q.waiting) (m ∷ ready_in later) → MayBegin (course_of q n.1) n.0 x m
  begins going x m free later popped =
      let listed = Contains-permutation (m ∷ ready_in later) (ready_in q.waiting) m (IsPermutation-sym (ready_in q.waiting) (m ∷ ready_in later) popped)
      (contains_first m (ready_in later)) in
      queue_may q n.1 n.0 h.0 going h.1 x m listed free.0 free.1

  pub stands_begun : q.is_over ≡ false → (x m : ℕ) → IsAmongFirst n.1 x × IsFree n.0 x → (later : Waiting) → later.waits ≡ q.waiting.waits
      → IsPermutation (ready_in q.waiting) (m ∷ ready_in later) → (v : State × ℕ) → ◌≡◌ {A = State × ℕ} v (begun_on n.0 x m, n.1)
      → Stands (record { case = q.case; timings = q.timings; tick = q.tick; awaits = q.awaits; order = q.order; due = q.due; waiting = later; is_over = q.is_over }) v
  stands_begun going x m free later same popped v is =
      let may = begins going x m free later popped in
      let after : Queue
      = record { case = q.case; timings = q.timings; tick = q.tick; awaits = q.awaits; order = q.order; due = q.due; waiting = later; is_over = q.is_over } in
      subst (λ (p : State × ℕ). Stands after p) (sym is) (
        queue_begun q n.1 n.0 h.0 x m h.1 may later same popped,
        reaches_more (course_of q n.1) n.0 (Begin x m) (begun_on n.0 x m) h.1 (may, refl),
      )

  pub stands_ended : (other : Queue) → other.case ≡ q.case → other.timings.items ≡ q.timings.items → other.tick ≡ q.tick → (m now : ℕ) → IsRunning n.0 m
      → (v : State × ℕ) → ◌≡◌ {A = State × ℕ} v (ended_at n.0 m now, n.1) → IsQueue other v.1 v.0 → Stands other v
  stands_ended other case timings tick m now running v is queue = (
    queue,
    subst (λ (p : State × ℕ). Reaches (course_of other p.1) p.0) (sym is)
        (subst (λ (c : Course). Reaches c (ended_at n.0 m now)) (sym (course_same q other n.1 case timings tick))
        (reaches_more (course_of q n.1) n.0 (End m now) (ended_at n.0 m now) h.1 (running, refl))),
  )

-- the queue when a message has ended
pub queue_ended : (q : Queue) (n : State × ℕ) → IsQueue q n.1 n.0 → 1 ≤ n.1 → Reaches (course_of q n.1) n.0
    → (m now : ℕ) → IsRunning n.0 m → q.is_over ≡ false → (awaits : WhoWaits) (due : List (ℕ × ℕ))
    → awaits ≡ record { awaited = set q.awaits.awaited (m - 1) []; finished = set q.awaits.finished (m - 1) true }
    → AreOpened (issue_noted (scaled q.tick (work_of q.timings.items)) (ended_at n.0 m now)) (WaitsFree (waiting_for q.awaits m) awaits) q.due due
    → (later : Waiting) → later.waits ≡ record { awaited = set q.waiting.waits.awaited (m - 1) []; finished = set q.waiting.waits.finished (m - 1) true }
    → ((entered begun : List ℕ) → ((d : ℕ) → Contains (waiting_for q.waiting.waits m) d → Contains entered d)
    → AreEach (WaitsFree entered q.waiting.waits) (begun ++ ready_in q.waiting) → AreEach (WaitsFree entered later.waits) (begun ++ ready_in later))
    → IsQueue (record { case = q.case; timings = q.timings; tick = q.tick; awaits = awaits; order = q.order; due = due; waiting = later; is_over = false }) n.1 (ended_at n.0 m now)
queue_ended q n h staffed reached m now running going awaits due gone opened later waits ready =
    let course = course_of q n.1 in
    let right = is_course q n.1 n.0 h staffed in
    let sound = sound_reached course right n.0 reached in
    let are = h.entered going in
    record {
      many = h.many;
      timings = h.timings;
      awaiting = λ _. awaiting_ended course right n.0 m now sound running q.awaits awaits (h.awaiting going) gone;
      lined = λ _.
          lined_ended course n.0 right m now sound running q.order.spans.now q.order.joining q.order.messages.items
          q.awaits awaits (h.awaiting going) gone q.due due opened (h.lined going);
      entered = λ _. record {
        entered = are.entered;
        issued = due_ended course n.0 are.entered q.due are.issued right m now sound running q.awaits awaits (h.awaiting going) gone due opened;
        placed = are.placed;
        waiting = waiting_ended course n.0 q.order.joining q.order.messages.items are.entered q.waiting.waits (ready_in q.waiting) are.waiting right m now sound running
            later.waits (ready_in later) waits ready;
      };
    }

-- the order of a case by number
pub first_more : (tree : List Node) (spans after : List Span) (assigned : List Held) (items more : List ℕ) (m : ℕ) (joining : Joined)
    → after ≡ spans → more ≡ items ++ m ∷ []
    → HaveJoined tree spans (map (held_of assigned) items ++ held_of assigned m ∷ []) joining → HaveJoined tree after (map (held_of assigned) more) joining
first_more tree spans after assigned items more m joining spans_is more_is have =
    subst (λ (ss : List Span). HaveJoined tree ss (map (held_of assigned) more) joining) (sym spans_is)
    (subst (λ (ms : List ℕ). HaveJoined tree spans (map (held_of assigned) ms) joining) (sym more_is)
    (subst (λ (xs : List Held). HaveJoined tree spans xs joining) (sym (map_push (held_of assigned) items m)) have))

-- when a run begins
abbrev pub fresh : ℕ → State
fresh count = record { clock = 0; turns = replicate count no_turn }

abbrev fresh_pair : ℕ → ℕ → State × ℕ
fresh_pair workers count = (fresh count, workers)

pub stands_opening : (q : Queue) (workers count : ℕ) → count ≡ length q.timings.items → (v : State × ℕ)
    → ◌≡◌ {A = State × ℕ} v (fresh count, workers) → ((w : ℕ) → IsQueue q w (opening (course_of q w))) → Stands q v
stands_opening q workers count many v is h =
    subst (λ (p : State × ℕ). Stands q p) (sym (is ∙ ap (λ (n : ℕ). fresh_pair workers n) many)) (h workers, ([], refl))

-- The queue of a line: what is issued next, what has joined, and what it is of.
use Rattle.std.specs.Prelude.{◌≡◌, ℕ, Bool, false, List, length}
use Rattle.waff_assign.specs.declared.case.Case.{Case}
use Rattle.waff_plan.specs.Timetable.{AreTimings}
use Rattle.waff_plan.specs.Timing.{work_of}
use Rattle.waff_plan.specs.declared.timing.Timing.{Timing}
use Rattle.waff_line.specs.Entered.{AreEntered, ready_in}
use Rattle.waff_line.specs.Lined.{IsAwaiting, IsLined, LineValue, latecomers}
use Rattle.waff_line.specs.Machine.{Course, State}
use Rattle.waff_line.specs.Scaled.{scaled}
use Rattle.waff_line.specs.declared.queue.Queue.{Queue}

-- what a run of the messages of a queue on so many workers is of
abbrev pub course_of : Queue → ℕ → Course
course_of queue workers = record {
  version = queue.case.trace.now.version;
  tree = queue.case.tree.now;
  assigned = queue.case.assigned.now;
  work = scaled queue.tick (work_of queue.timings.items);
  workers = workers;
}

-- what is seen of a line over a queue, with the state and how many workers there are
abbrev pub value_by : Case → List Timing → ℕ → Bool → State × ℕ → LineValue
value_by case timings tick over n = record {
  version = case.trace.now.version;
  tree = case.tree.now;
  assigned = case.assigned.now;
  timings = timings;
  tick = tick;
  workers = n.1;
  state = n.0;
  over = over;
}

abbrev pub value_of : Queue → State × ℕ → LineValue
value_of queue n = value_by queue.case queue.timings.items queue.tick queue.is_over n

-- the queue goes with this state of the machine, as long as it is not over
pub record IsQueue (queue : Queue) (workers : ℕ) (s : State) : Type 0 where
  pub many : length queue.timings.items ≡ length queue.case.assigned.now
  pub timings : AreTimings queue.case.trace.now.version queue.timings.items
  pub awaiting : queue.is_over ≡ false
      → IsAwaiting (scaled queue.tick (work_of queue.timings.items)) s queue.awaits
  pub lined : queue.is_over ≡ false
      → IsLined (course_of queue workers) s queue.order.spans.now queue.order.joining queue.order.messages.items
      (latecomers queue.case.trace.now.version queue.due)
  pub entered : queue.is_over ≡ false
      → AreEntered (course_of queue workers) s queue.order.joining queue.order.messages.items queue.due
      queue.waiting.waits (ready_in queue.waiting)

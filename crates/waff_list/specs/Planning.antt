-- What the planner keeps, in its own values.
use Rattle.std.specs.Prelude.{◌≡◌, ◌≢◌, ℕ, ◌+◌, ◌-◌, ◌<◌, ◌≤◌, List, [], ◌∷◌, ◌++◌, length, map, Contains}
use Rattle.std.specs.Prelude.{slice_set, false, replicate, ⊤}
use Rattle.std.specs.List.Sorted.{IsPermutation}
use Rattle.waff_assign.specs.Order.{held_of}
use Rattle.waff_order.specs.Joined.{HaveJoined}
use Rattle.waff_order.specs.Needs.{AreLists, needs_of}
use Rattle.waff_plan.specs.Awaiting.{AreAwaiting}
use Rattle.waff_plan.specs.Obeys.{AwaitsNone}
use Rattle.waff_plan.specs.Timing.{start_of, work_of}
use Rattle.waff_plan.specs.Work.{Work, IsNumber}
use Rattle.waff_list.specs.Issuing.{AreIssues, AreJoining, AreNeedsByNumber, AreServed}
use Rattle.waff_list.specs.Issuing.{AreOpened, after_start}
use Rattle.waff_list.specs.Placed.{Pending, Placed}
use Rattle.waff_list.specs.Plannable.{IsKept, IsPlannedTo, Plannable}
use Rattle.waff_waits.specs.Ready.{AreRanked, ranked_in}
use Rattle.waff_list.specs.Telling.{Basis, basis_of, order_by, priority_in}
use Rattle.waff_waits.specs.Waits.{Enters, WhoWaits}
use Rattle.waff_list.specs.Waiting.{LeavesLeast}
use Rattle.waff_list.specs.declared.progress.Progress.{Progress}
use Rattle.waff_list.specs.declared.issued.Issued.{Issued}
use Rattle.waff_list.specs.declared.service.Service.{Service}
use Rattle.waff_list.specs.declared.service.Service.TheVariants.{ByIssue, ByNumber}
use Rattle.waff_list.specs.declared.task.Task.{Task}
use Rattle.waff_list.specs.declared.waiting.Waiting.{Waiting}

-- what is planned of a task
abbrev pub plannable_of : Task → Basis → Plannable
plannable_of task basis = record {
  order = order_by basis (work_of task.timings.items);
  work = work_of task.timings.items;
  priority = priority_in task;
  workers = task.workers;
}

abbrev pub placed_in : Progress → Placed
placed_in p = record { starts = p.starts.items; seats = p.seats.items; order = p.order.items }

-- with these messages ready before those that are kept so
abbrev pub pending_in : Progress → Waiting → List ℕ → Pending
pending_in p w rest = record {
  finishes = p.finishes;
  idle = p.idle;
  waits = w.waits;
  ready = rest ++ ranked_in w.ready;
}

-- the plan has been made up to the tick now and the message turn
abbrev pub IsPlanned : Task → Basis → Progress → ℕ → ℕ → ℕ → Type 0
IsPlanned task basis p = IsPlannedTo (plannable_of task basis) (placed_in p)

-- these are the messages that have joined, and these the needs of each by number
pub record AreJoined (issues : Issued) (count : ℕ) (issued : List ℕ) (needs : List (List ℕ))
    : Type 0 where
  pub messages : issues.messages.items ≡ issued
  pub joined : HaveJoined issues.case.tree.now issues.spans.now
      (map (held_of issues.case.assigned.now) issued) issues.joining
  pub told : AreNeedsByNumber count issued issues.joining needs

-- these are the needs that are known, of the messages that are issued so far
abbrev pub AreKnown : Service → ℕ → List ℕ → List (List ℕ) → Type 0
AreKnown (ByNumber all) count issued needs = needs ≡ all.now
AreKnown (ByIssue issues) count issued needs = AreJoined issues count issued needs

-- the service is one of messages with this work; where it is by number no message awaits another
abbrev pub Fits : Service → Work → Type 0
Fits (ByNumber needs) work = (length needs.now ≡ work.count) × AwaitsNone work × AreLists needs.now
Fits (ByIssue issues) work = length issues.case.assigned.now ≡ work.count

-- no message has been issued yet
abbrev pub IsFresh : Service → Type 0
IsFresh (ByNumber needs) = ⊤
IsFresh (ByIssue issues) = (issues.messages.items ≡ [])
    × HaveJoined issues.case.tree.now issues.spans.now [] issues.joining

-- a new one: no message waits and none has finished
pub record IsNoneIssued (w : Waiting) (work : Work) : Type 0 where
  pub needs : List (List ℕ)
  pub known : AreKnown w.service work.count [] needs
  pub waits : w.waits ≡ record {
    awaited = replicate work.count [];
    finished = replicate work.count false;
  }
  pub ready : w.ready ≡ []

-- message m is one that is not issued yet, after these
pub record IsNew (work : Work) (issued : List ℕ) (m : ℕ) : Type 0 where
  pub number : IsNumber work m
  pub new : Contains issued m → ⊥
  pub numbers : (x : ℕ) → Contains issued x → IsNumber work x
  pub room : length issued < work.count

-- message m is issued: its needs are known from now on, and it waits for those that have not
-- finished
pub record IsLearnt (service : Service) (work : Work) (issued : List ℕ) (needs : List (List ℕ))
    (m : ℕ) (old new : WhoWaits) : Type 0 where
  pub more : List (List ℕ)
  pub known : AreKnown service work.count (issued ++ m ∷ []) more
  pub others : (x : ℕ) → 1 ≤ x → x ≢ m → needs_of more x ≡ needs_of needs x
  pub enters : Enters old m (needs_of more m) new

-- what is kept of the messages that wait, of those that run and of those that await others, where these
-- messages are ready before those that are kept so, and these are issued
pub record IsWaiting (task : Task) (p : Progress) (w : Waiting) (rest issued : List ℕ) (now : ℕ)
    : Type 0 where
  pub needs : List (List ℕ)
  pub kept : IsKept (plannable_of task (basis_of w.service)) (placed_in p)
      (pending_in p w rest) issued needs now
  pub known : AreKnown w.service (length task.timings.items) issued needs
  pub fits : Fits w.service (work_of task.timings.items)
  pub ranked : AreRanked (priority_in task)
      ((order_by (basis_of w.service) (work_of task.timings.items)).key (start_of p.starts.items))
      w.ready
  pub awaiting : AreAwaiting (work_of task.timings.items) p.order.items p.awaits

-- while messages are issued: these issues are known, of messages that are still to be issued
pub record AreIssuing (task : Task) (p : Progress) (w : Waiting) (issues : List (ℕ × ℕ)) (now : ℕ)
    : Type 0 where
  pub issued : List ℕ
  pub joining : AreJoining (work_of task.timings.items) (start_of p.starts.items) now issued issues
  pub waiting : IsWaiting task p w [] issued now

-- all that are issued by now have been, and messages start, these before those that are kept ready
pub record AreStarting (task : Task) (p : Progress) (w : Waiting) (rest : List ℕ) (now : ℕ)
    : Type 0 where
  pub issued : List ℕ
  pub served : AreServed (work_of task.timings.items) (start_of p.starts.items) now issued
  pub issues : AreIssues (work_of task.timings.items) (start_of p.starts.items) now p.issues
  pub waiting : IsWaiting task p w rest issued now

-- message m starts at now on the least worker that is idle; those that await nothing more have their
-- issues
pub record IsStarted (work : Work) (m now : ℕ) (old new : Progress) : Type 0 where
  pub worker : ℕ
  pub idle : LeavesLeast old.idle worker new.idle
  pub starts : new.starts.items ≡ slice_set old.starts.items (m - 1) now
  pub seats : new.seats.items ≡ slice_set old.seats.items (m - 1) worker
  pub order : new.order.items ≡ old.order.items ++ m ∷ []
  pub finishes : IsPermutation ((now + work.cost m, m) ∷ old.finishes) new.finishes
  pub awaits : new.awaits ≡ after_start old.awaits m
  pub opened : List (ℕ × ℕ)
  pub are : AreOpened work (start_of new.starts.items) old.awaits m opened
  pub issues : IsPermutation (opened ++ old.issues) new.issues

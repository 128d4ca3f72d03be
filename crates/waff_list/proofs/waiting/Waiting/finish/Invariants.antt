use Rattle.std.proofs.Common.{◌≡◌, ℕ, ◌-◌, ◌++◌, List, Contains, length, set}
use Rattle.waff_plan.specs.Timing.{start_of, work_of}
use Rattle.waff_waits.specs.Ready.{AreRanked, ranked_in}
use Rattle.waff_waits.specs.Times.{AreEach}
use Rattle.waff_waits.specs.Waits.{IsFree, waiting_for}
use Rattle.waff_list.specs.Telling.{key_in, priority_in}
use Rattle.waff_list.proofs.waiting.Waiting.finish.Given as goal

abbrev pub invariant-loop-waiter : goal.invariant-loop-waiter
invariant-loop-waiter l = record {
  service : l.self.service ≡ l.initial.self.service;
  going : (rest : List ℕ) × (l.self.waits ≡ record { awaited = set l.initial.self.waits.awaited (l.m - 1) rest; finished = l.initial.self.waits.finished })
      × ((d : ℕ) → Contains rest d → Contains (waiting_for l.initial.self.waits l.m) d);
  ready : (issued order : List ℕ) → ((d : ℕ) → Contains (waiting_for l.initial.self.waits l.m) d → Contains issued d)
      → AreEach (IsFree issued l.initial.self.waits) (order ++ ranked_in l.initial.self.ready) → AreEach (IsFree issued l.self.waits) (order ++ ranked_in l.self.ready);
  ranked : AreRanked (priority_in l.task) (key_in l.initial.self.service (work_of l.task.timings.items) (start_of l.starts)) l.initial.self.ready
      → AreRanked (priority_in l.task) (key_in l.initial.self.service (work_of l.task.timings.items) (start_of l.starts)) l.self.ready;
}

abbrev pub decreases-loop-waiter : goal.decreases-loop-waiter
decreases-loop-waiter l = length (waiting_for l.self.waits l.m)

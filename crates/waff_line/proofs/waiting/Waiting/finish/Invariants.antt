use Rattle.std.proofs.Common.{ℕ, ◌++◌, List, Contains, length}
use Rattle.waff_waits.specs.Times.{AreEach}
use Rattle.waff_waits.specs.Waits.{IsFree, waiting_for}
use Rattle.waff_waits.proofs.LettingGo.{IsGoing}
use Rattle.waff_line.specs.Entered.{ready_in}
use Rattle.waff_line.proofs.waiting.Waiting.finish.Given as goal

abbrev pub invariant-loop-waiter : goal.invariant-loop-waiter
invariant-loop-waiter l = record {
  rest : List ℕ;
  going : IsGoing l.initial.self.waits l.m rest l.self.waits;
  ready : (entered begun : List ℕ) → ((d : ℕ) → Contains (waiting_for l.initial.self.waits l.m) d → Contains entered d)
      → AreEach (IsFree entered l.initial.self.waits) (begun ++ ready_in l.initial.self) → AreEach (IsFree entered l.self.waits) (begun ++ ready_in l.self);
}

abbrev pub decreases-loop-waiter : goal.decreases-loop-waiter
decreases-loop-waiter l = length (waiting_for l.self.waits l.m)

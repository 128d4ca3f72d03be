use Rattle.std.proofs.Common.{◌≡◌, ℕ, ◌⊎◌, ◌++◌, List, Contains, length, map}
use Rattle.waff_plan.specs.Pending.{Issue}
use Rattle.waff_plan.specs.Timetable.{starts_in, work_in}
use Rattle.waff_plan.specs.Work.{issue_of}
use Rattle.waff_waits.specs.Times.{AreEach}
use Rattle.waff_waits.specs.Waits.{IsFree, waiting_for}
use Rattle.waff_waits.proofs.LettingGo.{IsGoing}
use Rattle.waff_plan.proofs.turns.admit.Given as goal

abbrev pub invariant-loop-next : goal.invariant-loop-next
invariant-loop-next l = record {
  rest : List ℕ;
  going : IsGoing l.initial.waits l.m rest l.waits;
  free : (entered taken : List ℕ) → ((d : ℕ) → Contains (waiting_for l.initial.waits l.m) d → Contains entered d)
      → AreEach (IsFree entered l.initial.waits) (taken ++ map (λ (x : Issue). x.1) l.initial.due)
      → AreEach (IsFree entered l.waits) (taken ++ map (λ (x : Issue). x.1) l.due);
  issued : (x : Issue) → Contains l.due x
      → Contains l.initial.due x ⊎ (Contains (waiting_for l.initial.waits l.m) x.1 × (x.0 ≡ issue_of (work_in l.plan) (starts_in l.plan) x.1));
}

abbrev pub decreases-loop-next : goal.decreases-loop-next
decreases-loop-next l = length (waiting_for l.waits l.m)

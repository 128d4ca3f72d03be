use Rattle.std.proofs.Common.{ℕ, List, length}
use Rattle.waff_plan.specs.Timing.{work_of}
use Rattle.waff_waits.specs.Waits.{IsFree, waiting_for}
use Rattle.waff_waits.proofs.LettingGo.{IsGoing}
use Rattle.waff_line.specs.Lined.{AreOpened, issue_noted}
use Rattle.waff_line.specs.Scaled.{scaled}
use Rattle.waff_line.proofs.queue.let_go.Given as goal

abbrev pub invariant-loop-next : goal.invariant-loop-next
invariant-loop-next l = record {
  rest : List ℕ;
  going : IsGoing l.initial.awaits l.m rest l.awaits;
  opened : AreOpened (issue_noted (scaled l.tick (work_of l.timings)) l.notes.0) (IsFree (waiting_for l.initial.awaits l.m) l.awaits) l.initial.due l.due;
}

abbrev pub decreases-loop-next : goal.decreases-loop-next
decreases-loop-next l = length (waiting_for l.awaits l.m)

use Rattle.std.proofs.Common.{◌≡◌, false, length}
use Rattle.waff_line.specs.Queued.{IsQueue}
use Rattle.waff_line.proofs.queue.Queue.join_all.Given as goal

abbrev pub invariant-loop : goal.invariant-loop
invariant-loop l = record {
  case : l.self.case ≡ l.initial.self.case;
  timings : l.self.timings.items ≡ l.initial.self.timings.items;
  tick : l.self.tick ≡ l.initial.self.tick;
  queue : IsQueue l.self l.notes.1 l.notes.0;
  going : l.self.is_over ≡ false → l.initial.self.is_over ≡ false;
}

abbrev pub decreases-loop : goal.decreases-loop
decreases-loop l = length l.self.due

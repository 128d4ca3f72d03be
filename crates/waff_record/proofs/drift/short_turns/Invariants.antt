use Rattle.std.proofs.Common.{◌≡◌, ◌≤◌, take}
use Rattle.waff_record.specs.Drift.{short_turns}
use Rattle.waff_record.proofs.drift.short_turns.Given as goal

abbrev pub invariant-loop-at : goal.invariant-loop-at
invariant-loop-at l = record {
  short_is : l.short ≡ short_turns l.tick (take l.at l.turns);
  few : l.short ≤ l.at;
}

use Rattle.std.proofs.Common.{ℕ, ◌^◌, ◌<◌, ◌≤◌, length, get_or, take}
use Rattle.waff_limits.specs.Edges.{edges_of}
use Rattle.waff_limits.specs.declared.readings.Reading.{Reading}
use Rattle.waff_limits.proofs.Skyline.{AreLaid}
use Rattle.waff_limits.proofs.readings.lay_all.Given as goal

abbrev pub invariant-loop-i : goal.invariant-loop-i
invariant-loop-i l = record {
  laid : AreLaid (edges_of l.initial.edges) (edges_of l.edges) l.going (take l.i l.readings) l.at;
  small : l.at < 2 ^ 64;
  ahead : (j : ℕ) (d : Reading) → l.i ≤ j → j < length l.readings → l.at ≤ (get_or l.readings j d).first;
}

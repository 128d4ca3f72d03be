use Rattle.std.specs.Prelude.{option_map}
use Rattle.std.proofs.Common.{◌-◌, take}
use Rattle.waff_limits.specs.Writes.{ticks_alone, ticks_sharing}
use Rattle.waff_limits.specs.Edges.{AreUsed, edges_of}
use Rattle.waff_limits.specs.Readings.{AreRead, readings_of}
use Rattle.waff_limits.proofs.writes.most_by.Given as goal

abbrev pub invariant-loop-n : goal.invariant-loop-n
invariant-loop-n l = record {
  alone : AreUsed (edges_of l.alone) (ticks_alone (option_map (λ l. l.now.spaces) l.sharing) (take (l.n - 1) l.trace.messages));
  shared : AreRead (readings_of l.shared) (ticks_sharing (option_map (λ l. l.now.spaces) l.sharing) (take (l.n - 1) l.trace.messages));
}

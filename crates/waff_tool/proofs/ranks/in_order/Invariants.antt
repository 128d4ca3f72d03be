use Rattle.std.proofs.Common.{◌≡◌, ◌++◌, ℕ, List, length, take}
use Rattle.std.specs.Vec.Iter.{into_iter_items, into_iter_len}
use Rattle.waff_tool.specs.Ranks.{AreRead, AreReadings}
use Rattle.waff_tool.proofs.ranks.in_order.Given as goal

abbrev pub invariant-loop-slot : goal.invariant-loop-slot
invariant-loop-slot l = record {
  so_far : l.yielded ++ into_iter_items l.slot-iterator ≡ into_iter_items l.initial.slot-iterator;
  read : (files : List (List ℕ)) → AreReadings files (into_iter_items l.initial.slot-iterator)
      → AreRead (take (length l.yielded) files) l.layouts.items;
  left : into_iter_len l.slot-iterator ≡ length (into_iter_items l.slot-iterator);
}

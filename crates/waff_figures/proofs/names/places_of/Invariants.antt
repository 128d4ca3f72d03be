use Rattle.std.proofs.Common.{◌≡◌, ◌-◌, length, vec_capacity}
use Rattle.waff_figures.specs.ByName.{AreNumbered, labels_of}
use Rattle.waff_figures.proofs.names.places_of.Given as goal

abbrev pub invariant-loop-n : goal.invariant-loop-n
invariant-loop-n l = record {
  numbered : AreNumbered (labels_of l.label l.trace.messages) l.names l.places.items;
  count : length l.places.items ≡ l.n - 1;
  room : vec_capacity l.places ≡ length l.trace.messages;
}

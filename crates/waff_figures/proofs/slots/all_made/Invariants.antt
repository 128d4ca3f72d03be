use Rattle.std.proofs.Common.{◌≡◌, length, map, take, vec_capacity, Some}
use Rattle.waff_figures.proofs.slots.all_made.Given as goal

abbrev pub invariant-loop-slot : goal.invariant-loop-slot
invariant-loop-slot g l = record {
  all : map (λ made. Some made) l.all.items ≡ take l.slot-index l.slots;
  room : vec_capacity l.all ≡ length l.slots;
}

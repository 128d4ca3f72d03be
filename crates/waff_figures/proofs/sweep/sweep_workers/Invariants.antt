use Rattle.std.proofs.Common.{◌≡◌, length, take, vec_capacity}
use Rattle.waff_figures.proofs.sweep.sweep_workers.Given as goal

abbrev pub invariant-loop-k : goal.invariant-loop-k
invariant-loop-k l = record {
  items : l.usual.items ≡ take l.k-index l.numbers;
  room : vec_capacity l.usual ≡ length l.numbers;
}

use Rattle.std.proofs.Common.{◌≡◌, length, take}
use Rattle.waff_draw.proofs.LaneLemmas.{Tells}
use Rattle.waff_draw.proofs.marks.marks.Given as goal

abbrev pub invariant-loop-number : goal.invariant-loop-number
invariant-loop-number l = record {
  count : length l.marks.items ≡ l.count;
  tells : Tells l.marks.items (take l.number-index l.numbers);
}

use Rattle.std.proofs.Common.{◌≡◌, ◌*◌, ◌^◌, ◌≤◌, sum_by, take}
use Rattle.waff_figures.proofs.parts.sum.Given as goal

abbrev pub invariant-loop-n : goal.invariant-loop-n
invariant-loop-n l = record {
  sum : l.sum ≡ sum_by (λ n. n) (take l.n-index l.numbers);
  small : l.sum ≤ 2 ^ 64 * l.n-index;
}

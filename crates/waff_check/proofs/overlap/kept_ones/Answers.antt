-- At first none is looked at.
use Rattle.std.proofs.Common.{◌≤◌, arith}
use Rattle.waff_check.proofs.OverlapLaws.{pair_of}
use Rattle.waff_check.proofs.overlap.kept_ones.Goals as goal

pub loop-kept-init : goal.loop-kept-init
loop-kept-init c = record {
  kept = λ i j none h. let from : 1 ≤ i = (pair_of c.args.planned.now i j h).from in omega (arith, none);
  rising = omega arith;
  within = omega (arith, c.len-messages.ensures.count);
}

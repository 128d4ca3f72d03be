use Rattle.std.proofs.Common.{arith}
use Rattle.waff_limits.proofs.WalkLemmas.{goes_on, goes_over, is_most_at, is_small, no_edge, starts}
use Rattle.waff_limits.proofs.edges.most_of.Goals.{else-is_last_there, then-is_last_there}
use Rattle.waff_limits.proofs.edges.most_of.Goals as goal

pub loop-i-init : goal.loop-i-init
loop-i-init c = starts c.args.edges.now c.requires.rising

pub overflow_add-begun : goal.overflow_add-begun
overflow_add-begun c = omega (arith, c.loop-i.invariant.begun_small, c.begins-begun.ensures.small, c.loop-i-test.true)

pub overflow_add-ending : goal.overflow_add-ending
overflow_add-ending c = omega (arith, c.loop-i.invariant.ending_small, c.ends-ending.ensures.small, c.loop-i-test.true)

pub overflow_sub-begun : goal.overflow_sub-begun
overflow_sub-begun c =
    let small = is_small c.args.edges.now c.requires.rising c.loop-i.i c.loop-i.begun c.loop-i.ended c.loop-i.ending c.loop-i.most c.loop-i.invariant c.loop-i-test.true
    c.begins-begun.result c.ends-ending.result c.begins-begun.ensures.begins c.ends-ending.ensures.ends c.begins-begun.ensures.small c.ends-ending.ensures.small
    (c.is_last_there.ensures.last c.if-is_last_there.true no_edge) c.requires.small in
    small.0

pub overflow_cast-begun : goal.overflow_cast-begun
overflow_cast-begun c =
    let small = is_small c.args.edges.now c.requires.rising c.loop-i.i c.loop-i.begun c.loop-i.ended c.loop-i.ending c.loop-i.most c.loop-i.invariant c.loop-i-test.true
    c.begins-begun.result c.ends-ending.result c.begins-begun.ensures.begins c.ends-ending.ensures.ends c.begins-begun.ensures.small c.ends-ending.ensures.small
    (c.is_last_there.ensures.last c.if-is_last_there.true no_edge) c.requires.small in
    omega (arith, small.1)

pub loop-i-preserved : goal.loop-i-preserved
loop-i-preserved c = elim c.if-is_last_there.branch [
  | then-is_last_there w ↦ rw (w.most-is, w.ended-is)
      (goes_over c.args.edges.now c.requires.rising c.loop-i.i c.loop-i.begun c.loop-i.ended c.loop-i.ending c.loop-i.most c.loop-i.invariant c.loop-i-test.true
      c.begins-begun.result c.ends-ending.result c.begins-begun.ensures.begins c.ends-ending.ensures.ends c.begins-begun.ensures.small c.ends-ending.ensures.small
      (c.is_last_there.ensures.last w.if-is_last_there.true no_edge) w.or-most.result w.or-most.ensures.longer w.or-most.ensures.other)
  | else-is_last_there w ↦ rw (w.most-is, w.ended-is)
      (goes_on c.args.edges.now c.requires.rising c.loop-i.i c.loop-i.begun c.loop-i.ended c.loop-i.ending c.loop-i.most c.loop-i.invariant c.loop-i-test.true
      c.begins-begun.result c.ends-ending.result c.begins-begun.ensures.begins c.ends-ending.ensures.ends c.begins-begun.ensures.small c.ends-ending.ensures.small
      (c.is_last_there.ensures.more w.if-is_last_there.false) (c.is_last_there.ensures.same w.if-is_last_there.false no_edge))
]

pub returns : goal.returns
returns c =
    is_most_at c.args.edges.now c.loop-i.i c.loop-i.begun c.loop-i.ended c.loop-i.ending c.loop-i.most c.loop-i.invariant c.loop-i-test.false

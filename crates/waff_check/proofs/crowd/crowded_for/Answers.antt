-- The first tick so far, and the first of all.
use Rattle.std.proofs.Common.{arith}
use Rattle.waff_plan.specs.Timing.{start_of, work_of}
use Rattle.waff_check.proofs.CrowdLaws.{found-all, found-more}
use Rattle.waff_check.proofs.crowd.crowded_for.Goals as goal

pub loop-n-init : goal.loop-n-init
loop-n-init c = λ m from lt h. omega arith

pub loop-n-preserved : goal.loop-n-preserved
loop-n-preserved c =
    let work = work_of c.args.plan.now.timings in
    let start = start_of c.args.plan.now.starts in
    let more = found-more work start c.args.k c.loop-n.n c.loop-n.first c.loop-n.invariant in
    rw (c.with_tick-first.ensures work start c.in_ok-ticks.ensures, c.start.ensures.start) more

pub returns : goal.returns
returns c = found-all (work_of c.args.plan.now.timings) (start_of c.args.plan.now.starts) c.args.k c.loop-n.n c.loop-n.first (omega (arith, c.len-n-end.ensures.count)) c.loop-n.invariant

use Rattle.std.proofs.Common.{arith}
use Rattle.waff_plan.proofs.Peaks.{peak_new, peak_old}
use Rattle.waff_plan.proofs.peak.Peak.or.Goals as goal

pub returns-then-self-ticks : goal.returns-then-self-ticks
returns-then-self-ticks c = λ f from count end is so_far. peak_new f from count c.args.at c.args.ticks end is c.args.self so_far (omega (arith, c.if-self-ticks.true))

pub returns-else-self-ticks : goal.returns-else-self-ticks
returns-else-self-ticks c = λ f from count end is so_far. peak_old f from count c.args.at c.args.ticks end is c.args.self so_far (omega (arith, c.if-self-ticks.false))

use Rattle.std.proofs.Common.{length, arith}
use Rattle.waff_figures.proofs.PercentileLemmas.{covered_is, percentile_at}
use Rattle.waff_figures.proofs.percentile.percentile.Goals as goal

pub returns : goal.returns
returns c =
    let numbers = c.args.sorted.now in
    let covered = covered_is c.args.percent (length numbers) c.div_ceil-covered.result c.requires.from c.requires.to (omega (arith, c.if-count-eq0.false)) c.div_ceil-covered.ensures in
    percentile_at c.args.percent numbers c.div_ceil-covered.result c.requires.sorted covered.0 covered.1 covered.2 covered.3

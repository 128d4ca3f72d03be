use Rattle.std.proofs.Common.{◌<◌, arith, subst}
use Rattle.std.specs.Fmt.{HasWritten}
use Rattle.waff_plan_text.proofs.RatioLemmas.{mean_field}
use Rattle.waff_plan_text.proofs.ratio.MeanDisplay.fmt.Goals as goal

pub returns-else-self-eq0-clause-writes : goal.returns-else-self-eq0-clause-writes
returns-else-self-eq0-clause-writes g c plain ok =
    let some : 0 < c.args.self.now.1 = omega (arith, c.if-self-eq0.false) in
    subst (λ bytes. HasWritten {W = g.row.W.Denot} g.W.Write.write_str_gives c.args.f.now bytes c.write-else-self-eq0.new.self)
    (mean_field c.args.self.now.0 c.from-count.result c.args.self.now.1 c.from-count.ensures some) (c.write-else-self-eq0.ensures.writes plain ok)

use Rattle.std.proofs.Common.{◌<◌, length, arith, rules, ◌∙◌}
use Rattle.waff_model.proofs.LaterLemmas.{latest-take_more}
use Rattle.waff_model.proofs.spans.latest.Goals as goal

pub loop-value-preserved : goal.loop-value-preserved
loop-value-preserved g c =
    let join = g.T.Later.join in
    let values = c.args.values.now in
    let i = c.loop-value.value-index in
    let within : i < length values = c.loop-value-test.true in
    let joined = rw c.loop-value.invariant.1 at c.later-latest.ensures in
    (omega arith, joined ∙ latest-take_more join g.met.T.Later.laws values i _ within (search rules))

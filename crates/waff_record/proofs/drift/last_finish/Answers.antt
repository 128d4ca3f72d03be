use Rattle.std.proofs.Common.{arith, ap, ◌∙◌}
use Rattle.std.proofs.lemmas.List.{take_all}
use Rattle.waff_line.specs.declared.turn.Turn.{Turn}
use Rattle.waff_record.specs.Drift.{last_finish}
use Rattle.waff_record.proofs.Drifting.{last_more}
use Rattle.waff_record.proofs.drift.last_finish.Goals as goal

pub loop-at-preserved : goal.loop-at-preserved
loop-at-preserved c =
    let more = last_more c.args.turns.now c.loop-at.at c.loop-at-test.true in
    let here = ap (λ (turn : Turn). turn.finish) c.turn_in-turn.ensures in
    omega (arith, more, here, c.max-last.ensures, c.loop-at.invariant)

pub returns : goal.returns
returns c = c.loop-at.invariant ∙ ap last_finish (take_all c.loop-at.at c.args.turns.now (omega (arith, c.loop-at-test.false)))

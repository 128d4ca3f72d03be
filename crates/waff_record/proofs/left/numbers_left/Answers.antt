use Rattle.std.proofs.Common.{arith}
use Rattle.waff_record.proofs.LeftOf.{left_all}
use Rattle.waff_record.proofs.left.numbers_left.Goals as goal

pub returns : goal.returns
returns c = left_all c.args.turns.now c.args.tick c.loop-at.at c.loop-at.kept.items (omega (arith, c.loop-at-test.false)) c.loop-at.invariant

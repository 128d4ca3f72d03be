use Rattle.std.proofs.Common.{arith}
use Rattle.waff_model.proofs.Relocking.{spaces_with_all, spaces_with_more}
use Rattle.waff_model.proofs.layout.with_lockings.Goals as goal

pub loop-s-preserved : goal.loop-s-preserved
loop-s-preserved c =
    spaces_with_more c.loop-s.made.items c.push.new.self.items c.args.spaces.now c.args.lockings.now c.loop-s.s c.index-spaces-s.result c.in_ok-with_locks.field-0 _
    c.loop-s-test.true (omega arith) c.index-spaces-s.is c.in_ok-with_locks.ensures c.in_ok-push.ensures.items c.loop-s.invariant

pub returns : goal.returns
returns c = spaces_with_all c.loop-s.made.items c.args.spaces.now c.args.lockings.now c.loop-s.s c.loop-s-test.false c.loop-s.invariant

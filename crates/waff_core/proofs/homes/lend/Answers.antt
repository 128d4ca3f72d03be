use Rattle.std.proofs.Common.{arith}
use Rattle.waff_core.proofs.Lending.{lent_none, lent_more, lent_all}
use Rattle.waff_core.proofs.homes.lend.Goals as goal

pub loop-at-init : goal.loop-at-init
loop-at-init c = lent_none c.args.home.now c.args.owners.now

pub loop-at-preserved : goal.loop-at-preserved
loop-at-preserved c =
    lent_more c.args.home.now c.args.owners.now c.loop-at.home c.loop-at.at c.loop-at-test.true
    (omega (arith, c.requires c.loop-at.at 0 c.loop-at-test.true, c.loop-at.auto.home)) c.loop-at.invariant

pub returns-clause-lent : goal.returns-clause-lent
returns-clause-lent c = lent_all c.args.home.now c.args.owners.now c.loop-at.home c.loop-at.at (omega arith) c.loop-at.invariant

use Rattle.std.proofs.Common.{◌+◌, sym, subst}
use Rattle.waff_limits.specs.Jumps.{AreJumpsTo}
use Rattle.waff_limits.proofs.JumpLemmas.{one_jump_more}
use Rattle.waff_limits.proofs.jumps.jumps.Goals as goal

pub loop-b-preserved : goal.loop-b-preserved
loop-b-preserved c =
    subst (λ js. AreJumpsTo c.args.tree.now js (c.loop-b.b + 1)) (sym c.push_reserved.ensures.items)
    (one_jump_more c.args.tree.now c.loop-b.jumps.items c.loop-b.b c.jump_of-jump.result c.loop-b.invariant c.jump_of-jump.ensures)

use Rattle.std.proofs.Common.{◌≤◌, arith}
use Rattle.waff_model.proofs.TreeLemmas.{earlier}
use Rattle.waff_limits.proofs.jumps.jump_below.Goals as goal

pub at_or_above-requires-clause-above : goal.at_or_above-requires-clause-above
at_or_above-requires-clause-above c =
    let le : c.args.above.0 ≤ c.args.from.0 = earlier c.args.tree.now c.len.ensures.tree.rooted c.args.above.0 c.args.from.0 c.requires.above in
    omega (arith, le, c.requires.known)

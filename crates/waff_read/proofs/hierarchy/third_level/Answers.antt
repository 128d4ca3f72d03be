use Rattle.std.proofs.Common.{◌∙◌, sym, arith}
use Rattle.waff_read.proofs.LevelLemmas.{found_level, no_level}
use Rattle.waff_read.proofs.hierarchy.third_level.Goals as goal

pub returns-then-is_below_child : goal.returns-then-is_below_child
returns-then-is_below_child c =
    found_level c.args.tree.now c.loop-number.number (omega arith) c.loop-number.invariant (sym c.is_below_child.ensures ∙ c.if-is_below_child.true)

pub returns : goal.returns
returns c = no_level c.args.tree.now (λ k inside. c.loop-number.invariant k (omega arith))

use Rattle.std.proofs.Common.{sym, ◌∙◌}
use Rattle.waff_tool.proofs.ComparisonLemmas.{told_without}
use Rattle.waff_tool.proofs.comparison.refinement.Goals as goal

pub returns : goal.returns
returns c =
    told_without _ _ c.refines.result _ (sym c.has_locks.ensures ∙ c.if-has_locks.false) (sym c.has_locks-else-has_locks.ensures ∙ c.if-has_locks-2.false)
    (rw (c.tree.ensures, c.tree-2.ensures) at c.refines.ensures)

use Rattle.std.proofs.Common.{◌+◌}
use Rattle.waff_check.specs.Searches.{planned_links}
use Rattle.waff_check.proofs.LinkLaws.{LinkedBelow}
use Rattle.waff_check.proofs.links.broken_link.Given as goal

abbrev pub invariant-loop-index : goal.invariant-loop-index
invariant-loop-index l = LinkedBelow (planned_links l.planned) l.chain (l.index + 1)

use Rattle.waff_tool.proofs.ComparisonLemmas.{measured_of}
use Rattle.waff_tool.proofs.measures.measure.Goals as goal

pub returns : goal.returns
returns c =
    measured_of c.args.layout.now c.args.case.now c.args.k _ _ _ c.requires.tree c.kind.ensures c.in_ok-unlimited_totals.ensures c.in_ok-list_totals.ensures

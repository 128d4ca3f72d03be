use Rattle.std.proofs.lemmas.Result.{IfOk-at_ok}
use Rattle.waff_assign.specs.Case.{instance_of}
use Rattle.waff_tool.specs.Comparison.{AreCertifiedTotals, AreListTotals}
use Rattle.waff_tool.proofs.ComparisonLemmas.{measured_of}
use Rattle.waff_tool.proofs.measures.measure_side_by_side.Goals as goal

pub returns : goal.returns
returns g c =
    let case = c.args.case.now in
    let least = IfOk-at_ok (AreCertifiedTotals (instance_of case)) c.in_ok-unlimited.was c.join-unlimited.ensures.first in
    let by_arrival = IfOk-at_ok (AreListTotals (instance_of case) c.args.k) c.in_ok-listed.was c.join-unlimited.ensures.second in
    measured_of c.args.layout.now case c.args.k _ _ _ c.requires.tree c.kind.ensures least by_arrival

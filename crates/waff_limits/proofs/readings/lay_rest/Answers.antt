use Rattle.std.proofs.Common.{◌≡◌, ◌+◌, ◌-◌, arith, subst}
use Rattle.std.proofs.lemmas.Result.{on_ok_weaker}
use Rattle.waff_limits.specs.Edges.{AreUsed, edges_of}
use Rattle.waff_limits.specs.Readings.{with_peak, with_places}
use Rattle.waff_limits.proofs.EdgeLemmas.{same_used}
use Rattle.waff_limits.proofs.Skyline.{goes_on}
use Rattle.waff_limits.proofs.readings.lay_rest.Goals as goal

pub returns-then-from-end : goal.returns-then-from-end
returns-then-from-end c =
    let from = c.args.from in
    let end = c.args.end in
    let next : end - 1 + 1 ≡ end = omega (arith, c.if-from-end.true) in
    on_ok_weaker c.add_places.result
    (λ told used peak are same.
    same_used (edges_of c.add_places.new.self) (with_places (with_peak used peak from) from (end - 1) c.args.cost) (with_peak used peak end)
    (goes_on used peak from end (end - 1) c.args.cost next (omega (arith, c.if-from-end.true)) same) (told (with_peak used peak from) are))
    c.add_places.ensures

pub returns-else-from-end : goal.returns-else-from-end
returns-else-from-end c = λ used peak are same.
    let there : c.args.from ≡ c.args.end = omega (arith, c.if-from-end.false, c.requires.order) in
    subst (λ e. AreUsed (edges_of c.args.edges.now) (with_peak used peak e)) there are

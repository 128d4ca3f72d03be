use Rattle.std.proofs.Common.{arith}
use Rattle.waff_limits.proofs.EdgeLemmas.{begins_anew, goes_on}
use Rattle.waff_limits.proofs.edges.Edges.add.Goals as goal

pub returns-in_ok-keep : goal.returns-in_ok-keep
returns-in_ok-keep c = λ used next are more.
    goes_on c.args.self.now.edges.items c.keep.new.self.edges.items c.args.cell c.args.cost used next c.place_of-place.ensures.small more
    c.args.self.now.last.place c.args.self.now.last.begins c.args.self.now.last.ends c.place_of-place.result
    c.if-ends-cost.true (omega (arith, c.if-before-place.true, c.if-place-before-eq1.true)) c.place_of-place.ensures.place
    c.in_ok-keep.ensures.begun c.in_ok-keep.ensures.ended are

pub returns-in_ok-keep-2 : goal.returns-in_ok-keep-2
returns-in_ok-keep-2 c = λ used next are more.
    begins_anew c.args.self.now.edges.items c.keep-else-ends-cost.new.self.edges.items c.args.cell c.args.cost used next c.place_of-place.ensures.small more
    c.args.self.now.last c.place_of-place.result c.place_of-place.ensures.place
    c.in_ok-keep-2.ensures.begun c.in_ok-keep-2.ensures.ended are

use Rattle.waff_limits.specs.Edges.{edges_of}
use Rattle.waff_limits.proofs.RunLemmas.{adds_places}
use Rattle.waff_limits.proofs.edges.Edges.add_places.Goals as goal

pub returns : goal.returns
returns c = λ used are.
    adds_places c.args.first c.args.last c.args.cost used c.requires.filled
    (edges_of c.args.self.now) c.keep.new.self.edges.items c.keep-2.new.self.edges.items
    c.in_ok-keep.ensures.begun c.in_ok-keep.ensures.ended c.in_ok-keep-2.ensures.begun c.in_ok-keep-2.ensures.ended are

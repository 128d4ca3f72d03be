use Rattle.std.proofs.Common.{ap, ◌∙◌}
use Rattle.std.proofs.lemmas.Result.{on_ok_weaker}
use Rattle.waff_limits.specs.Edges.{edges_of, place_of}
use Rattle.waff_limits.specs.Readings.{with_places}
use Rattle.waff_limits.specs.Runs.{used_in_run}
use Rattle.waff_limits.proofs.EdgeLemmas.{same_used}
use Rattle.waff_limits.proofs.RunLemmas.{cell_of, used_there}
use Rattle.waff_limits.proofs.edges.Edges.add_run.Goals as goal

pub returns : goal.returns
returns c =
    let run = c.args.run in
    on_ok_weaker c.add_places.result
    (λ told used are.
    same_used (edges_of c.add_places.new.self) (with_places used c.place_of-first.result c.place_of-last.result c.args.cost) (used_in_run run used c.args.cost)
    (λ cell. ap (λ p. with_places used p c.place_of-last.result c.args.cost cell) c.place_of-first.ensures.place
    ∙ ap (λ p. with_places used (place_of (cell_of run.space run.first)) p c.args.cost cell) c.place_of-last.ensures.place
    ∙ used_there used run.space run.first run.last c.args.cost c.place_of-first.ensures.small c.place_of-last.ensures.small cell)
    (told used are)) c.add_places.ensures

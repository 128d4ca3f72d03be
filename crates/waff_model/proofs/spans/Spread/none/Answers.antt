use Rattle.std.proofs.Common.{map, ◌∙◌, ap}
use Rattle.waff_model.proofs.LaterLemmas.{whole_none}
use Rattle.waff_model.proofs.spans.Spread.none.Goals as goal

pub returns : goal.returns
returns g c =
    let join = g.T.Later.join in
    let values = c.in_ok-blocks.blocks in
    ap (λ whole. map (λ x. join.later x whole) values) c.none-whole.ensures
    ∙ whole_none join g.met.T.Later.laws values ∙ c.in_ok-blocks.ensures

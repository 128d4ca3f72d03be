use Rattle.std.proofs.Common.{length, sym, ◌∙◌, ap}
use Rattle.waff_model.proofs.BlockLemmas.{length-spread}
use Rattle.waff_model.proofs.spans.Blocks.len.Goals as goal

pub returns : goal.returns
returns g c =
    c.len.ensures ∙ c.self.inside.places.ok.0 ∙ sym (length-spread g.T.Later.join c.self.inside.blocks.items 0 c.self.inside.places.items)
    ∙ ap length c.self.view_is

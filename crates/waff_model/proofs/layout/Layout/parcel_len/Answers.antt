use Rattle.std.proofs.Common.{◌∙◌, arith}
use Rattle.waff_model.proofs.ParcelLemmas.{owned_all}
use Rattle.waff_model.proofs.layout.Layout.parcel_len.Goals as goal

pub returns : goal.returns
returns c = c.count_ahead.ensures ∙ owned_all c.args.self.now.spaces c.space_count.result c.args.a.0 (omega (arith, c.space_count.ensures.count))

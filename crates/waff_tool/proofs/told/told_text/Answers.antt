use Rattle.std.proofs.Common.{inr, refl, string_bytes}
use Rattle.waff_inputs.proofs.Delivering.{delivers}
use Rattle.waff_inputs.specs.Inputs.{IsToldUnder, Refuses}
use Rattle.waff_tool.specs.Told.{Tells}
use Rattle.waff_tool.proofs.told.told_text.Goals as goal

pub returns : goal.returns
returns g c =
    delivers (λ text. string_bytes text) (λ text. IsToldUnder (Tells c.args.told.now) c.args.hierarchy.now c.args.trace.now text)
    (Refuses c.args.hierarchy.now c.args.trace.now) _ _ tt c.made_text.result c.deliver.result c.made_text.ensures (inr (inr refl))
    c.deliver.ensures

use Rattle.std.proofs.Common.{inr, refl, string_bytes}
use Rattle.waff_figures.specs.declared.told.Told.TheVariants as told
use Rattle.waff_inputs.proofs.Delivering.{delivers}
use Rattle.waff_inputs.specs.Inputs.{IsToldUnder, Refuses}
use Rattle.waff_tool.specs.Told.{Tells}
use Rattle.waff_tool.proofs.assigns.assign_text.Goals as goal

pub returns : goal.returns
returns g c =
    delivers (λ text. string_bytes text) (λ text. IsToldUnder (Tells told.Assign) c.args.hierarchy.now c.args.trace.now text)
    (Refuses c.args.hierarchy.now c.args.trace.now) _ _ tt c.made_assign_text.result c.deliver.result c.made_assign_text.ensures (inr (inr refl))
    c.deliver.ensures

use Rattle.std.proofs.Common.{inr, refl, string_bytes}
use Rattle.waff_inputs.proofs.Delivering.{delivers}
use Rattle.waff_tool.specs.CheckText.{RefusesCheck}
use Rattle.waff_tool.specs.DrawText.{IsDrawText}
use Rattle.waff_tool.proofs.draws.draw_text.Goals as goal

pub returns : goal.returns
returns g c =
    delivers (λ text. string_bytes text) (λ text. IsDrawText c.args.hierarchy.now c.args.trace.now c.args.plan.now c.args.picture c.args.part text)
    (RefusesCheck c.args.hierarchy.now c.args.trace.now c.args.plan.now) _ _ tt c.made_picture.result c.deliver.result c.made_picture.ensures (inr (inr refl))
    c.deliver.ensures

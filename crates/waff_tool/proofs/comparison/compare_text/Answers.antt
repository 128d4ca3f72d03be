use Rattle.std.proofs.Common.{inr, refl, string_bytes}
use Rattle.waff_inputs.proofs.Delivering.{delivers}
use Rattle.waff_tool.specs.Comparison.{IsCompareText, RefusesComparison}
use Rattle.waff_tool.proofs.comparison.compare_text.Goals as goal

pub returns : goal.returns
returns g c =
    delivers (λ text. string_bytes text) (λ text. IsCompareText c.args.first.now c.args.second.now c.args.trace.now c.args.workers text)
    (RefusesComparison c.args.first.now c.args.second.now c.args.trace.now) _ _ tt c.made_compare_text.result c.deliver.result (rw c.workers_of.ensures at c.made_compare_text.ensures) (inr (inr refl))
    c.deliver.ensures

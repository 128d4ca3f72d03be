use Rattle.std.proofs.Common.{string_bytes, ◌≡◌}
use Rattle.std.proofs.lemmas.Result.{IfOk-weaker}
use Rattle.waff_assign.specs.Case.{instance_of}
use Rattle.waff_plan_text.specs.Lines.{text_of}
use Rattle.waff_tool.specs.NeedsText.{TellsNeeds, needs_lines}
use Rattle.waff_tool.proofs.needs.needed_text.Goals as goal

pub returns : goal.returns
returns c =
    let needs = c.in_ok-needs.needs in
    IfOk-weaker c.listed_text-text.result (λ text. string_bytes text ≡ text_of (needs_lines needs))
    (λ text. TellsNeeds (instance_of c.args.case.now) (string_bytes text))
    (λ text lines. record { needs = needs; are_needs = c.in_ok-needs.ensures.needs; are_chosen = c.in_ok-needs.ensures.chosen; lines = lines })
    c.listed_text-text.ensures

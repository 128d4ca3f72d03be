-- The text of the needs of messages is one.
use Rattle.std.proofs.Common.{sym, ◌∙◌, ap}
use Rattle.waff_model.specs.Unique.{AtMostOne}
use Rattle.waff_assign.specs.Instance.{Instance}
use Rattle.waff_order.proofs.ChosenLemmas.{lists_are_one}
use Rattle.waff_plan_text.specs.Lines.{text_of}
use Rattle.waff_tool.specs.NeedsText.{TellsNeeds, needs_lines}

pub needs_are_one : (instance : Instance) → AtMostOne (TellsNeeds instance)
needs_are_one instance text other p q =
    p.lines
    ∙ ap (λ needs. text_of (needs_lines needs)) (lists_are_one instance.tree instance.assigned p.needs q.needs p.are_chosen q.are_chosen)
    ∙ sym q.lines

use Rattle.std.proofs.Common.{◌≡◌, List, string_bytes, ◌∙◌, ap}
use Rattle.std.proofs.lemmas.Result.{IfOk-weaker}
use Rattle.waff_model.specs.Layout.{Space}
use Rattle.waff_cells.specs.Grid.{cells_in}
use Rattle.waff_plan_text.specs.Lines.{text_of}
use Rattle.waff_tool.specs.PrintedSpaces.{AreAllPrinted}
use Rattle.waff_tool.specs.ReplayText.{state_after, state_lines}
use Rattle.waff_tool.proofs.StateLines.{printed_sizes, state_lines_same}
use Rattle.waff_tool.proofs.replays.replayed_text.Goals as goal

pub state_text-text-requires-clause-sizes : goal.state_text-text-requires-clause-sizes
state_text-text-requires-clause-sizes g c =
    c.in_ok-state.ensures.sizes ∙ printed_sizes c.args.accepted.layout.spaces c.args.printed.now c.requires.printed

pub returns : goal.returns
returns g c =
    let spaces = c.args.accepted.layout.spaces in
    let after = state_after c.args.accepted.trace in
    let left = cells_in c.in_ok-state.state in
    let printed = c.args.printed.now in
    IfOk-weaker c.state_text-text.result
    (λ text. (spaces : List Space) → AreAllPrinted spaces printed → string_bytes text ≡ text_of (state_lines spaces left))
    (λ text. string_bytes text ≡ text_of (state_lines spaces after))
    (λ text lines. lines spaces c.requires.printed ∙ ap text_of (state_lines_same spaces left after c.in_ok-state.ensures.cells))
    c.state_text-text.ensures

use Rattle.std.proofs.Common.{◌≡◌, ◌++◌, map, string_bytes, take}
use Rattle.waff_plan_text.specs.Lines.{text_of}
use Rattle.waff_figures.specs.ByName.{message_names}
use Rattle.waff_figures.specs.WaitText.{waits_row}
use Rattle.waff_figures.proofs.wait_text.push_rows.Given as goal

abbrev pub invariant-loop-row : goal.invariant-loop-row
invariant-loop-row l =
    string_bytes l.text ≡ string_bytes l.initial.text
    ++ text_of (map (waits_row l.grouping l.locks.layout.now.spaces l.locks.cells.now l.case.tree.now l.case.assigned.now (message_names l.case.trace.now.messages)) (take l.row-index l.rows))

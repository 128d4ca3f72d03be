use Rattle.std.proofs.Common.{◌≡◌, ◌++◌, map, take, string_bytes}
use Rattle.waff_plan_text.specs.Lines.{text_of}
use Rattle.waff_figures.specs.Sweep.{sweep_row}
use Rattle.waff_figures.proofs.sweep.push_rows.Given as goal

abbrev pub invariant-loop-figures : goal.invariant-loop-figures
invariant-loop-figures l =
    string_bytes l.text ≡ string_bytes l.initial.text ++ text_of (map sweep_row (take l.figures-index l.rows))

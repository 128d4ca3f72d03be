use Rattle.std.proofs.Common.{◌≡◌, ◌++◌, map, string_bytes}
use Rattle.std.specs.List.{range_with_len}
use Rattle.waff_plan_text.specs.Lines.{text_of}
use Rattle.waff_figures.specs.ByName.{tallied_name_figures_row}
use Rattle.waff_figures.proofs.by_name.push_figures_rows.Given as goal

abbrev pub invariant-loop-place : goal.invariant-loop-place
invariant-loop-place l =
    string_bytes l.text ≡ string_bytes l.initial.text
    ++ text_of (map (tallied_name_figures_row l.names l.plan_length l.tallies l.parts) (range_with_len 0 l.place))

use Rattle.std.proofs.Common.{◌≡◌, ◌++◌, map, string_bytes}
use Rattle.std.specs.List.{range_with_len}
use Rattle.waff_plan_text.specs.Lines.{text_of}
use Rattle.waff_figures.specs.ByAffinity.{tallied_figures_row}
use Rattle.waff_figures.proofs.by_affinity.push_figures_rows.Given as goal

abbrev pub invariant-loop-a : goal.invariant-loop-a
invariant-loop-a l =
    string_bytes l.text ≡ string_bytes l.initial.text
    ++ text_of (map (tallied_figures_row l.tree l.plan_length l.tallies l.below l.parts) (range_with_len 0 l.a))

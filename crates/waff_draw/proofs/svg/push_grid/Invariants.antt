use Rattle.std.proofs.Common.{flat_map}
use Rattle.std.specs.List.{range_with_len}
use Rattle.waff_plan_text.specs.Lines.{Adds}
use Rattle.waff_draw.specs.Scene.{end_in}
use Rattle.waff_draw.specs.Svg.{grid_text, line_in, upto}
use Rattle.waff_draw.proofs.svg.push_grid.Given as goal

abbrev pub invariant-loop-i : goal.invariant-loop-i
invariant-loop-i l =
    Adds l.initial.text l.text
    (flat_map (λ i. upto (end_in l.chart) (grid_text l.chart) (line_in l.chart i)) (range_with_len 0 l.i))

use Rattle.std.proofs.Common.{[], flat_map, get_or}
use Rattle.std.specs.List.{range_with_len}
use Rattle.waff_plan_text.specs.Lines.{Adds}
use Rattle.waff_draw.specs.Scene.{coloured_in}
use Rattle.waff_draw.specs.Svg.{colour_text}
use Rattle.waff_draw.proofs.svg.push_colours.Given as goal

abbrev pub invariant-loop-place : goal.invariant-loop-place
invariant-loop-place l =
    Adds l.initial.text l.text
    (flat_map (λ place. colour_text l.chart place (get_or (coloured_in l.chart) place [])) (range_with_len 0 l.place))

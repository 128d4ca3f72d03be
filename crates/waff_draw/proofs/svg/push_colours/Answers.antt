use Rattle.std.proofs.Common.{[], arith, get_or, string_bytes}
use Rattle.waff_draw.specs.Scene.{coloured_in}
use Rattle.waff_draw.specs.Svg.{colour_text}
use Rattle.waff_draw.proofs.TextLemmas.{more_from}
use Rattle.waff_draw.proofs.svg.push_colours.Goals as goal

pub loop-place-preserved : goal.loop-place-preserved
loop-place-preserved c =
    let place = c.loop-place.place in
    let scene = c.args.chart.now in
    more_from (λ place. colour_text scene place (get_or (coloured_in scene) place [])) 0 place place (string_bytes c.args.text.now)
    (string_bytes c.loop-place.text) (string_bytes c.push_colour.new.text) (omega arith) c.loop-place.invariant
    c.in_ok-push_colour.ensures

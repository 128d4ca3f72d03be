use Rattle.std.proofs.Common.{◌++◌, string_bytes}
use Rattle.std.proofs.lemmas.Result.{on_ok_weaker}
use Rattle.waff_draw.specs.Pieces.{group_end}
use Rattle.waff_draw.specs.Svg.{each_line, tick_text, unit_text}
use Rattle.waff_draw.proofs.TextLemmas.{behind}
use Rattle.waff_draw.proofs.svg.push_axis.Goals as goal

pub returns : goal.returns
returns c = on_ok_weaker c.push_group_end.result
    (λ done.
    let scene = c.args.chart.now in
    let before = string_bytes c.args.text.now in
    let s1 = string_bytes c.push_unit.new.text in
    let s2 = string_bytes c.push_ticks.new.text in
    let s3 = string_bytes c.push_group_end.new.text in
    let x1 = unit_text scene in
    let x2 = each_line scene (tick_text scene) in
    let ticks = behind before s1 s2 x1 x2 c.in_ok-push_unit.ensures c.in_ok-push_ticks.ensures in
    behind before s2 s3 (x1 ++ x2) group_end ticks done)
    c.push_group_end.ensures

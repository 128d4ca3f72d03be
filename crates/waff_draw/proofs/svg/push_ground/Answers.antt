use Rattle.std.proofs.Common.{◌++◌, string_bytes}
use Rattle.std.proofs.lemmas.Result.{on_ok_weaker}
use Rattle.waff_draw.specs.Svg.{axis_text, head_text, lanes_text, lines_text}
use Rattle.waff_draw.proofs.TextLemmas.{behind}
use Rattle.waff_draw.proofs.svg.push_ground.Goals as goal

pub returns : goal.returns
returns c = on_ok_weaker c.push_lines.result
    (λ done.
    let scene = c.args.chart.now in
    let before = string_bytes c.args.text.now in
    let s1 = string_bytes c.push_head.new.text in
    let s2 = string_bytes c.push_lanes.new.text in
    let s3 = string_bytes c.push_axis.new.text in
    let s4 = string_bytes c.push_lines.new.text in
    let x1 = head_text scene in
    let x2 = lanes_text scene in
    let x3 = axis_text scene in
    let lanes = behind before s1 s2 x1 x2 c.in_ok-push_head.ensures c.in_ok-push_lanes.ensures in
    let axis = behind before s2 s3 (x1 ++ x2) x3 lanes c.in_ok-push_axis.ensures in
    behind before s3 s4 (x1 ++ x2 ++ x3) (lines_text scene) axis done)
    c.push_lines.ensures

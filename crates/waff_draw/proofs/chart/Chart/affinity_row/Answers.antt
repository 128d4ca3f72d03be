use Rattle.std.proofs.Common.{◌≡◌, ◌+◌, ◌<◌, ◌≤◌, length, arith, ◌∙◌, ap, ap₂}
use Rattle.std.proofs.lemmas.List.{get_or_default}
use Rattle.waff_assign.specs.Case.{instance_of}
use Rattle.waff_assign.specs.Order.{affinity_of, held_of, number_or}
use Rattle.waff_assign.proofs.Holding.{affinity_known}
use Rattle.waff_draw.specs.Lanes.{row_of}
use Rattle.waff_draw.specs.Scene.{lanes_in, scene_with, work_of_scene}
use Rattle.waff_draw.proofs.LaneLemmas.{number_known, row_within}
use Rattle.waff_draw.proofs.chart.Chart.affinity_row.Goals as goal

pub overflow_add-result : goal.overflow_add-result
overflow_add-result c =
    let inside = c.self.inside in
    let tree = inside.case.tree.now in
    let assigned = inside.case.assigned.now in
    let n = c.args.n in
    let scene = scene_with (instance_of inside.case) inside.given.now inside.part inside.is_tree in
    let number = c.number.result in
    let within : n ≤ length assigned
    = omega (arith, c.requires.to, ap (λ s. (work_of_scene s).count) c.self.view_is, c.self.invariant.messages, inside.case.lengths) in
    let known = number_known (affinity_of assigned n) c.len-none.result
    (λ a is. omega (arith, affinity_known tree assigned n a inside.case.known c.requires.from within is, c.len-none.ensures.count)) in
    let low : number < length tree + 1 = omega (arith, c.number.ensures, known, c.len-none.ensures.count) in
    let row : c.index.result.now ≡ row_of (lanes_in scene) number
    = c.index.ensures ∙ get_or_default inside.rows.items number c.index.result.now 0 (omega (arith, low, c.self.invariant.row_count))
    ∙ c.self.invariant.each_row number low in
    omega (arith, row, row_within 0 (lanes_in scene) number, ap length c.self.invariant.shown, c.self.invariant.few, c.from.ensures, c.place_of.type_inv)

pub returns : goal.returns
returns c =
    let inside = c.self.inside in
    let tree = inside.case.tree.now in
    let assigned = inside.case.assigned.now in
    let n = c.args.n in
    let scene = scene_with (instance_of inside.case) inside.given.now inside.part inside.is_tree in
    let number = c.number.result in
    let within : n ≤ length assigned
    = omega (arith, c.requires.to, ap (λ s. (work_of_scene s).count) c.self.view_is, c.self.invariant.messages, inside.case.lengths) in
    let known = number_known (affinity_of assigned n) c.len-none.result
    (λ a is. omega (arith, affinity_known tree assigned n a inside.case.known c.requires.from within is, c.len-none.ensures.count)) in
    let low : number < length tree + 1 = omega (arith, c.number.ensures, known, c.len-none.ensures.count) in
    let number_is : number ≡ number_or (length tree) (held_of assigned n)
    = c.number.ensures ∙ ap (λ k. number_or k (held_of assigned n)) c.len-none.ensures.count in
    let row : c.index.result.now ≡ row_of (lanes_in scene) number
    = c.index.ensures ∙ get_or_default inside.rows.items number c.index.result.now 0 (omega (arith, low, c.self.invariant.row_count))
    ∙ c.self.invariant.each_row number low in
    ap₂ (λ r p. r + p)
    (row ∙ ap (row_of (lanes_in scene)) number_is
    ∙ ap (λ s. row_of (lanes_in s) (number_or (length s.instance.tree) (held_of s.instance.assigned n))) c.self.view_is)
    (c.from.ensures ∙ c.place_of.ensures)

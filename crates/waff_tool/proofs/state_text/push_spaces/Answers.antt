use Rattle.std.proofs.Common.{◌≡◌, Some, string_bytes, sym, ◌∙◌, ap}
use Rattle.waff_model.specs.Layout.{name_at, size_at}
use Rattle.waff_cells.specs.Grid.{cells_in}
use Rattle.waff_tool.specs.declared.state_text.PrintedSpace.{PrintedSpace}
use Rattle.waff_tool.proofs.StateLines.{space_further}
use Rattle.waff_tool.proofs.state_text.push_spaces.Goals as goal

pub loop-s-preserved : goal.loop-s-preserved
loop-s-preserved c spaces all =
    let s = c.loop-s.s in
    let printed = c.index-printed-s.result in
    let name : name_at spaces s ≡ Some printed.name =
    all.each.name s printed c.loop-s-test.true ∙ ap (λ (p : PrintedSpace). Some p.name) (sym c.index-printed-s.is) in
    let size : size_at spaces s ≡ printed.size =
    all.each.size s printed c.loop-s-test.true ∙ ap (λ (p : PrintedSpace). p.size) (sym c.index-printed-s.is) in
    space_further spaces (cells_in c.args.state.now) s printed.size (string_bytes c.args.text.now)
    (string_bytes c.loop-s.text) (string_bytes c.push_space.new.text) size (c.loop-s.invariant spaces all)
    (c.in_ok-push_space.ensures spaces name size)

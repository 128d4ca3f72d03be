use Rattle.std.proofs.Common.{string_bytes, sym}
use Rattle.waff_cells.specs.Grid.{cells_in}
use Rattle.waff_tool.proofs.StateLines.{told_further, untold_further}
use Rattle.waff_tool.proofs.state_text.push_space.Goals as goal
use Rattle.waff_tool.proofs.state_text.push_space.Goals.{then-value-ne0+in_ok-push_cell, else-value-ne0}

pub loop-index-preserved : goal.loop-index-preserved
loop-index-preserved c spaces named sized =
    let cells = cells_in c.args.state.now in
    let before = string_bytes c.args.text.now in
    let so_far = c.loop-index.invariant spaces named sized in
    elim c.if-value-ne0.branch [
      | then-value-ne0+in_ok-push_cell w ↦
          rw w.text-is
          (told_further spaces cells c.args.s c.loop-index.index c.get-value.result c.args.printed.now.name before
          (string_bytes c.loop-index.text) (string_bytes w.push_cell.new.text) (sym c.get-value.ensures) w.if-value-ne0.true named so_far
          (rw w.as_str.ensures at w.in_ok-push_cell.ensures))
      | else-value-ne0 w ↦
          rw w.text-is
          (untold_further spaces cells c.args.s c.loop-index.index c.get-value.result before
          (string_bytes c.loop-index.text) (sym c.get-value.ensures) w.if-value-ne0.false so_far)
    ]

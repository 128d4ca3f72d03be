use Rattle.std.proofs.Common.{string_bytes}
use Rattle.waff_tool.specs.NeedsText.{needs_row}
use Rattle.waff_plan_text.proofs.LinesLemmas.{rows_further}
use Rattle.waff_tool.proofs.needs.push_needs_rows.Goals as goal

pub loop-n-preserved : goal.loop-n-preserved
loop-n-preserved c =
    rows_further (needs_row c.args.needs.now)
    c.loop-n.n (string_bytes c.args.text.now) (string_bytes c.loop-n.text) (string_bytes c.push_needs_row.new.text)
    c.loop-n.auto.n c.loop-n.invariant
    (rw c.of.ensures.needs at c.in_ok-push_needs_row.ensures)

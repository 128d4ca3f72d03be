use Rattle.std.proofs.Common.{string_bytes}
use Rattle.waff_assign.specs.Case.{instance_of}
use Rattle.waff_tool.specs.AssignText.{assign_row}
use Rattle.waff_plan_text.proofs.LinesLemmas.{rows_further}
use Rattle.waff_tool.proofs.assigns.push_assigned_rows.Goals as goal

pub loop-n-preserved : goal.loop-n-preserved
loop-n-preserved c =
    rows_further (assign_row (instance_of c.args.case.now))
    c.loop-n.n (string_bytes c.args.text.now) (string_bytes c.loop-n.text) (string_bytes c.push_assigned_row.new.text)
    c.loop-n.auto.n c.loop-n.invariant
    (rw c.message.ensures.message (rw (c.as_str-name.ensures, c.affinity_name.ensures) at c.in_ok-push_assigned_row.ensures))

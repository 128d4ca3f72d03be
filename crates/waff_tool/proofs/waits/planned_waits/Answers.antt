use Rattle.std.proofs.Common.{string_bytes}
use Rattle.std.proofs.lemmas.Result.{IfOk-weaker}
use Rattle.waff_assign.specs.Case.{instance_of}
use Rattle.waff_plan.specs.Instances.{work_of_instance}
use Rattle.waff_plan.specs.Timetable.{timings_of}
use Rattle.waff_plan.specs.Timing.{start_of}
use Rattle.waff_tool.proofs.WaitsTexts as waits
use Rattle.waff_tool.proofs.WorstTexts as worst
use Rattle.waff_tool.proofs.waits.planned_waits.Goals as goal

pub returns-in-Rows : goal.returns-in-Rows
returns-in-Rows c =
    let planned = c.args.planned.now in
    let instance = instance_of planned.case in
    let starts = planned.plan.now.starts in
    let are = rw (planned.version, planned.timings) at c.len-messages.ensures.table.timings in
    rw c.in-Rows.is
    (IfOk-weaker c.waiting_text.result (λ text. waits.IsTold c.in-Rows.grouping c.args.locks.now.layout.now.spaces c.args.locks.now.cells.now instance (timings_of instance.trace.messages) starts (string_bytes text)) _
    (λ text told rule workers is.
    waits.told_text rule workers c.in-Rows.grouping c.args.locks.now.layout.now c.args.locks.now.cells.now instance starts (string_bytes text) c.requires.listed are planned.case.lengths
    (c.ticks_add_up.ensures instance.trace.version instance.tree instance.assigned (work_of_instance instance) (start_of starts)) is told)
    (rw (planned.version, planned.timings) at c.waiting_text.ensures))

pub returns-in-Worst : goal.returns-in-Worst
returns-in-Worst c =
    let planned = c.args.planned.now in
    let instance = instance_of planned.case in
    let plan = planned.plan.now in
    rw c.in-Worst.is
    (IfOk-weaker c.worst_messages_text.result (λ text. worst.IsTold c.in-Worst.most c.args.locks.now.layout.now.spaces c.args.locks.now.cells.now instance plan.version plan.timings plan.starts (string_bytes text)) _
    (λ text told rule workers is.
    worst.told_text rule workers c.in-Worst.most c.args.locks.now.layout.now c.args.locks.now.cells.now instance plan.version plan.timings plan.starts (string_bytes text) c.requires.listed planned.version planned.timings is told)
    c.worst_messages_text.ensures)

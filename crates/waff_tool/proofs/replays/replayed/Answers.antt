use Rattle.std.proofs.Common.{ℕ, List, length, ◌∙◌, ap}
use Rattle.std.proofs.lemmas.List.{length-map}
use Rattle.std.proofs.lemmas.Result.{IfOk-weaker}
use Rattle.waff_model.specs.declared.message.Message.{Message}
use Rattle.waff_model.specs.declared.op.Op.{Op}
use Rattle.waff_cells.specs.Serial.{operations, serial}
use Rattle.waff_tool.proofs.replays.replayed.Goals as goal

pub returns-clause-cells : goal.returns-clause-cells
returns-clause-cells g c =
    let messages = c.args.accepted.trace.messages in
    IfOk-weaker c.replay.result _ _
    (λ state cells cell.
    cells cell
    ∙ ap (λ (ops : List (List Op)). serial ops (length ops) cell) c.in_ok-job.ensures.ops
    ∙ ap (λ (n : ℕ). serial (operations messages) n cell) (length-map messages (λ (m : Message). m.ops)))
    c.replay.ensures.cells

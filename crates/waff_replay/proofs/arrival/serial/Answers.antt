use Rattle.std.proofs.Common.{◌≡◌, ℕ, suc, ◌+◌, ◌-◌, ◌<◌, ◌≤◌, List, [], length, Some, slice_get, get_or, arith, sym, ◌∙◌, ap}
use Rattle.std.proofs.lemmas.List.{get_or-map}
use Rattle.std.proofs.lemmas.Option.{get_or_from_slice_get}
use Rattle.waff_model.specs.declared.cell.Cell.{Cell}
use Rattle.waff_model.specs.declared.op.Op.{Op}
use Rattle.waff_model.specs.declared.message.Message.{Message}
use Rattle.waff_cells.specs.Meaning.{Cells, meaning}
use Rattle.waff_cells.specs.Serial.{operations, serial}
use Rattle.waff_cells.proofs.MeaningLaws.{meaning_agree}
use Rattle.waff_replay.proofs.arrival.serial.Goals as goal

-- one message more
serial_more : (messages : List Message) (n : ℕ) (message : Message) (before : Cells) → 1 ≤ n → n ≤ length messages
    → slice_get messages (n - 1) ≡ Some message → ((cell : Cell) → before cell ≡ serial (operations messages) (n - 1) cell)
    → (cell : Cell) → meaning message.ops before cell ≡ serial (operations messages) (n + 1 - 1) cell
serial_more messages n message before from to is same cell =
    let ops = operations messages in
    let short : n - 1 < length messages = omega arith in
    let here : get_or ops (n - 1) [] ≡ message.ops
    = get_or-map (λ (m : Message). m.ops) messages (n - 1) message [] short
    ∙ ap (λ (m : Message). m.ops) (get_or_from_slice_get messages (n - 1) message message is) in
    let next : suc (n - 1) ≡ n + 1 - 1 = omega arith in
    meaning_agree message.ops before (serial ops (n - 1)) (λ c _. same c) cell (same cell)
    ∙ ap (λ (xs : List Op). meaning xs (serial ops (n - 1)) cell) (sym here) ∙ ap (λ k. serial ops k cell) next

pub loop-n-preserved : goal.loop-n-preserved
loop-n-preserved c = record {
  sizes = c.apply.ensures.sizes ∙ c.loop-n.invariant.sizes;
  cells = λ cell. c.apply.ensures.cells cell
      ∙ serial_more c.args.trace.now.messages c.loop-n.n c.message.result.now _ (omega arith) (omega arith)
      c.message.ensures.message c.loop-n.invariant.cells cell;
}

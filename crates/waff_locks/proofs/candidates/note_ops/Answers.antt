use Rattle.std.proofs.Common.{◌||◌, false, get_or, eqb, take, arith, refl, sym, ◌∙◌, ap}
use Rattle.std.specs.List.{list_any}
use Rattle.std.proofs.lemmas.List.{take_all}
use Rattle.waff_model.specs.Cells.{cells_of_op}
use Rattle.waff_model.specs.declared.cell.Cell.{Cell}
use Rattle.waff_locks.specs.Candidates.{ops_name}
use Rattle.waff_locks.proofs.Naming.{or_more, or_none, ops_name_more}
use Rattle.waff_locks.proofs.candidates.note_ops.Goals as goal

pub loop-index-init : goal.loop-index-init
loop-index-init c = record { count = refl; each = λ s low. or_none (get_or c.args.named.now.items s false) }

pub loop-index-preserved : goal.loop-index-preserved
loop-index-preserved c =
    let ops = c.args.ops.now in
    let old = c.args.named.now.items in
    let i = c.loop-index.index in
    let op = c.get.result in
    let so_far = c.loop-index.invariant in
    record {
      count = c.note_op.ensures.count ∙ so_far.count;
      each = λ s low.
          let more = list_any (λ (cell : Cell). eqb cell.space s) (cells_of_op op) in
          c.note_op.ensures.each s (omega (arith, low, so_far.count))
          ∙ ap (λ b. b || more) (so_far.each s low)
          ∙ or_more (get_or old s false) (ops_name (take i ops) s) more
          ∙ ap (λ b. get_or old s false || b) (sym (ops_name_more ops i op s c.get.ensures));
    }

pub returns-clause-each : goal.returns-clause-each
returns-clause-each c = λ s low.
    let ops = c.args.ops.now in
    c.loop-index.invariant.each s low
    ∙ ap (λ xs. get_or c.args.named.now.items s false || ops_name xs s) (take_all c.loop-index.index ops (omega (arith, c.loop-index-test.false)))

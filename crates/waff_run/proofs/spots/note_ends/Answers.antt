use Rattle.std.proofs.Common.{◌++◌, take, append-nil, sym, subst, arith}
use Rattle.std.proofs.lemmas.List.{take_all}
use Rattle.waff_model.specs.Cells.{cells_of}
use Rattle.waff_model.proofs.OpCells.{cells_of_more}
use Rattle.waff_run.specs.Named.{AreEnds}
use Rattle.waff_run.proofs.spots.note_ends.Goals as goal

pub loop-at-init : goal.loop-at-init
loop-at-init c = λ cells are. subst (λ cs. AreEnds c.args.places.now cs c.args.ends.now) (sym (append-nil cells)) are

pub loop-at-preserved : goal.loop-at-preserved
loop-at-preserved c = λ cells are.
    subst (λ cs. AreEnds c.args.places.now cs c.note_ends_of_op.new.ends)
    (cells_of_more cells c.args.ops.now c.loop-at.at c.get.result c.get.ensures)
    (c.note_ends_of_op.ensures (cells ++ cells_of (take c.loop-at.at c.args.ops.now)) (c.loop-at.invariant cells are))

pub returns : goal.returns
returns c = λ cells are.
    subst (λ ops. AreEnds c.args.places.now (cells ++ cells_of ops) c.loop-at.ends) (take_all c.loop-at.at c.args.ops.now (omega arith))
    (c.loop-at.invariant cells are)

use Rattle.std.proofs.Common.{length, map, sym, ◌∙◌, ap, subst}
use Rattle.std.proofs.lemmas.Option.{slice_get_within, get_or_from_slice_get}
use Rattle.waff_model.specs.Cells.{cells_of_op}
use Rattle.waff_cells.specs.Held.{rows_of, AreWithin, IsWithin}
use Rattle.waff_cells.specs.RowEffects.{row_effect}
use Rattle.waff_model.proofs.OpCells.{cells_of_one}
use Rattle.waff_cells.proofs.RowRuns.{run_more}
use Rattle.waff_cells.proofs.rows.run.Goals as goal

pub run_op-requires-clause-has : goal.run_op-requires-clause-has
run_op-requires-clause-has g c =
    cells_of_one (g.A.Addresses.has c.args.addresses.now) c.args.ops.now c.loop-at.at c.get.result c.get.ensures c.requires.has

pub run_op-requires-clause-within : goal.run_op-requires-clause-within
run_op-requires-clause-within g c =
    let at = g.A.Addresses.at c.args.addresses.now in
    subst (λ sizes. AreWithin sizes at (cells_of_op c.get.result)) (sym c.loop-at.invariant.sizes)
    (cells_of_one (λ cell. IsWithin (map length (rows_of c.args.rows.now)) (at cell)) c.args.ops.now c.loop-at.at c.get.result c.get.ensures c.requires.within)

pub loop-at-preserved : goal.loop-at-preserved
loop-at-preserved g c =
    let at = g.A.Addresses.at c.args.addresses.now in
    let ops = c.args.ops.now in
    let i = c.loop-at.at in
    let op = c.get.result in
    record {
      sizes = c.run_op.ensures.sizes ∙ c.loop-at.invariant.sizes;
      rows = run_more at ops i op (rows_of c.args.rows.now) (rows_of c.loop-at.rows) (rows_of c.run_op.new.rows)
          (slice_get_within ops i op c.get.ensures) c.loop-at.invariant.rows
          (c.run_op.ensures.effect ∙ ap (λ op. row_effect at op (rows_of c.loop-at.rows)) (sym (get_or_from_slice_get ops i op op c.get.ensures)));
    }

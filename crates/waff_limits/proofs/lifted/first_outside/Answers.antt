use Rattle.std.proofs.Common.{[], Contains, option_map, take, arith, subst}
use Rattle.std.proofs.lemmas.List.{take_all}
use Rattle.waff_model.specs.Cells.{cells_of}
use Rattle.waff_model.specs.Layout.{IsCell}
use Rattle.waff_model.specs.declared.cell.Cell.{Cell}
use Rattle.waff_model.proofs.OpCells.{cells_of_more, cells_of_one}
use Rattle.waff_limits.specs.Lifted.{IsFirstAmong, IsOutside}
use Rattle.waff_limits.proofs.lifted.first_outside.Goals as goal

none_of : (cell : Cell) → Contains [] cell → ⊥
none_of cell (k, inside, is) = omega (arith, inside)

pub loop-index-init : goal.loop-index-init
loop-index-init c = λ cell there meant. none_of cell there

pub sooner_of_op-first-requires-clause-cells : goal.sooner_of_op-first-requires-clause-cells
sooner_of_op-first-requires-clause-cells c =
    cells_of_one (IsCell c.args.layout.now.spaces) c.args.ops.now c.loop-index.index c.get.result c.get.ensures c.requires.cells

pub loop-index-preserved : goal.loop-index-preserved
loop-index-preserved c =
    let IsMeant = IsOutside c.args.layout.now (option_map (λ a. a.0) c.args.below) in
    let ops = c.args.ops.now in
    subst (λ cs. IsFirstAmong cs IsMeant c.sooner_of_op-first.result) (cells_of_more [] ops c.loop-index.index c.get.result c.get.ensures)
    (c.sooner_of_op-first.ensures (cells_of (take c.loop-index.index ops)) c.loop-index.invariant)

pub returns : goal.returns
returns c =
    let ops = c.args.ops.now in
    subst (λ list. IsFirstAmong (cells_of list) (IsOutside c.args.layout.now (option_map (λ a. a.0) c.args.below)) c.loop-index.first)
    (take_all c.loop-index.index ops (omega arith)) c.loop-index.invariant

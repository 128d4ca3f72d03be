use Rattle.std.proofs.Common.{◌≡◌, [], take, arith, subst}
use Rattle.std.specs.Prelude.{option_map}
use Rattle.std.proofs.lemmas.List.{take_all}
use Rattle.waff_model.specs.Cells.{cells_of}
use Rattle.waff_model.specs.Layout.{IsCell}
use Rattle.waff_model.specs.declared.tree.AffinityId.{AffinityId}
use Rattle.waff_model.proofs.OpCells.{cells_of_more, cells_of_one}
use Rattle.waff_assign.specs.Lowest.{IsAffinityAmong, IsAffinityOf}
use Rattle.waff_assign.proofs.assignment.lowest_without_locks.Goals as goal

pub lowered_by_op-low-requires-clause-cells : goal.lowered_by_op-low-requires-clause-cells
lowered_by_op-low-requires-clause-cells c =
    cells_of_one (IsCell c.args.layout.now.spaces) c.args.ops.now c.loop-index.index c.get.result c.get.ensures c.requires.cells

pub loop-index-preserved : goal.loop-index-preserved
loop-index-preserved c =
    let ops = c.args.ops.now in
    let index = c.loop-index.index in
    let op = c.get.result in
    record {
      lowest = subst (λ cells. IsAffinityAmong c.args.layout.now cells (option_map (λ (a : AffinityId). a.0) c.lowered_by_op-low.result))
          (cells_of_more [] ops index op c.get.ensures)
          (c.lowered_by_op-low.ensures.lowest (cells_of (take index ops)) c.loop-index.invariant.lowest);
      within = c.lowered_by_op-low.ensures.within;
    }

pub returns-clause-lowest : goal.returns-clause-lowest
returns-clause-lowest c =
    let all : take c.loop-index.index c.args.ops.now ≡ c.args.ops.now = take_all c.loop-index.index c.args.ops.now (omega arith) in
    subst (λ list. IsAffinityOf c.args.layout.now list (option_map (λ (a : AffinityId). a.0) c.loop-index.low)) all c.loop-index.invariant.lowest

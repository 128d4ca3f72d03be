use Rattle.std.proofs.Common.{◌≡◌, ◌++◌, [], ◌+◌, take, arith, ◌∙◌, ap, sym, subst}
use Rattle.std.specs.List.{filter}
use Rattle.std.proofs.lemmas.List.{take_all}
use Rattle.std.proofs.lemmas.List.Elements.{filter-append}
use Rattle.waff_model.specs.Cells.{cells_of, cells_of_op}
use Rattle.waff_model.specs.Layout.{IsCell}
use Rattle.waff_model.proofs.OpCells.{cells_of_more, cells_of_one}
use Rattle.waff_assign.specs.Uses.{Adds, is_locked, locked_cells}
use Rattle.waff_assign.proofs.Adding.{adds_more, adds_none}
use Rattle.waff_assign.proofs.locks.add_locked.Goals as goal

pub loop-index-init : goal.loop-index-init
loop-index-init c = adds_none c.args.cells.now.items

pub add_locked_of_op-requires : goal.add_locked_of_op-requires
add_locked_of_op-requires c = record {
  cells = cells_of_one (IsCell c.args.layout.now.spaces) c.args.ops.now c.loop-index.index c.get.result c.get.ensures c.requires.cells;
}

pub loop-index-preserved : goal.loop-index-preserved
loop-index-preserved c =
    let spaces = c.args.layout.now.spaces in
    let before = cells_of (take c.loop-index.index c.args.ops.now) in
    let more = cells_of_op c.get.result in
    let all : locked_cells spaces before ++ locked_cells spaces more ≡ locked_cells spaces (cells_of (take (c.loop-index.index + 1) c.args.ops.now))
    = sym (filter-append (is_locked spaces) before more)
    ∙ ap (filter (is_locked spaces)) (cells_of_more [] c.args.ops.now c.loop-index.index c.get.result c.get.ensures) in
    subst (λ cells. Adds c.args.cells.now.items c.add_locked_of_op.new.cells.items cells) all
    (adds_more c.args.cells.now.items c.loop-index.cells.items c.add_locked_of_op.new.cells.items (locked_cells spaces before) (locked_cells spaces more)
    c.loop-index.invariant c.in_ok-add_locked_of_op.ensures)

pub returns : goal.returns
returns c =
    let whole : take c.loop-index.index c.args.ops.now ≡ c.args.ops.now = take_all c.loop-index.index c.args.ops.now (omega arith) in
    subst (λ ops. Adds c.args.cells.now.items c.loop-index.cells.items (locked_cells c.args.layout.now.spaces (cells_of ops))) whole c.loop-index.invariant

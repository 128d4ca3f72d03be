use Rattle.std.proofs.Common.{◌≡◌, ◌+◌, ◌-◌, ◌++◌, [], arith, subst}
use Rattle.waff_model.specs.Cells.{cells_of}
use Rattle.waff_assign.specs.Uses.{Adds, locked_cells, locked_cells_between}
use Rattle.waff_assign.proofs.Adding.{adds_more, adds_none}
use Rattle.waff_assign.proofs.Assignments.{cells_of_layout}
use Rattle.waff_assign.proofs.Once.{between_more, between_none, once_of_added}
use Rattle.waff_assign.proofs.locks.list.Goals as goal

pub add_locked-requires : goal.add_locked-requires
add_locked-requires c = record {
  cells = cells_of_layout c.args.trace.now.sizes c.args.layout.now.spaces (cells_of c.message.result.now.ops) c.requires.fits c.message.ensures.within.cells;
}

pub loop-n-init : goal.loop-n-init
loop-n-init c =
    let none : locked_cells_between c.args.layout.now.spaces c.args.trace.now.messages c.args.before (c.args.before + 1 - 1) ≡ []
    = between_none c.args.layout.now.spaces c.args.trace.now.messages c.args.before (c.args.before + 1 - 1) (omega arith) in
    rw (c.new-cells.ensures.items, none) (adds_none [])

pub loop-n-preserved : goal.loop-n-preserved
loop-n-preserved c =
    let spaces = c.args.layout.now.spaces in
    let messages = c.args.trace.now.messages in
    let before = c.args.before in
    let n = c.loop-n.n in
    let message = c.message.result.now in
    let all : locked_cells_between spaces messages before (n - 1) ++ locked_cells spaces (cells_of message.ops) ≡ locked_cells_between spaces messages before (n + 1 - 1)
    = between_more spaces messages before (n - 1) (n + 1 - 1) message (omega arith) (omega arith) c.message.ensures.message in
    subst (λ cells. Adds [] c.add_locked.new.cells.items cells) all
    (adds_more [] c.loop-n.cells.items c.add_locked.new.cells.items (locked_cells_between spaces messages before (n - 1)) (locked_cells spaces (cells_of message.ops))
    c.loop-n.invariant c.in_ok-add_locked.ensures)

pub returns : goal.returns
returns c =
    let spaces = c.args.layout.now.spaces in
    let messages = c.args.trace.now.messages in
    let past : c.loop-n.n - 1 ≡ c.args.end = omega arith in
    let added : Adds [] c.loop-n.cells.items (locked_cells_between spaces messages c.args.before c.args.end)
    = subst (λ e. Adds [] c.loop-n.cells.items (locked_cells_between spaces messages c.args.before e)) past c.loop-n.invariant in
    once_of_added (locked_cells_between spaces messages c.args.before c.args.end) c.loop-n.cells.items c.keep_once.new.cells.items added c.in_ok-keep_once.ensures

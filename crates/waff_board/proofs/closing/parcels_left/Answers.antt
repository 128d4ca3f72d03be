use Rattle.std.proofs.Common.{◌≡◌, ℕ, List, length, Vec, Global, arith, sym, subst}
use Rattle.std.specs.Slots.{slots_items}
use Rattle.waff_cells.specs.Gathered.{LieIn, cells_of_parcels}
use Rattle.waff_cells.specs.Held.{rows_of}
use Rattle.waff_cells.specs.Serial.{serial}
use Rattle.waff_board.proofs.Takings.{undone_unseen, closed_serial, parcels_lie, parcels_tell}
use Rattle.waff_board.proofs.closing.parcels_left.Goals as goal

pub returns-in-Some-clause-refused : goal.returns-in-Some-clause-refused
returns-in-Some-clause-refused c =
    let chair = c.args.chair in
    let closed = c.close_with-closed.result in
    let found = c.in-Some.ensures.some in
    undone_unseen (λ (p : Vec ℕ Global). p.items) c.args.table.shared.key c.args.job.now chair.id chair.me.0
    (slots_items closed.words) (slots_items closed.slots) c.close_with-closed.ensures.values.2 c.requires.told c.requires.of c.in-Some.message
    found.0 (omega (arith, found.1, c.len.ensures.count)) found.2

pub returns-in-None-clause-lie : goal.returns-in-None-clause-lie
returns-in-None-clause-lie c =
    let chair = c.args.chair in
    let job = c.args.job.now in
    let closed = c.close_with-closed.result in
    let slots = slots_items closed.slots in
    let are = closed_serial (λ (p : Vec ℕ Global). p.items) c.args.table.shared.key job chair.id chair.me.0 (slots_items closed.words) slots
    c.close_with-closed.ensures.values.2 c.requires.told
    (λ n from to. c.in-None.ensures.none n from (omega (arith, to, c.len.ensures.count))) in
    subst (λ (parcels : List (Vec ℕ Global)). LieIn job.layout.spaces (rows_of parcels)) (sym c.unload-parcels.ensures)
    (parcels_lie job c.requires.job.layout (serial job.ops (length job.ops)) slots are)

pub returns-in-None-clause-cells : goal.returns-in-None-clause-cells
returns-in-None-clause-cells c = λ cell is_cell.
    let chair = c.args.chair in
    let job = c.args.job.now in
    let closed = c.close_with-closed.result in
    let slots = slots_items closed.slots in
    let are = closed_serial (λ (p : Vec ℕ Global). p.items) c.args.table.shared.key job chair.id chair.me.0 (slots_items closed.words) slots
    c.close_with-closed.ensures.values.2 c.requires.told
    (λ n from to. c.in-None.ensures.none n from (omega (arith, to, c.len.ensures.count))) in
    subst (λ (parcels : List (Vec ℕ Global)). cells_of_parcels job.layout.spaces (rows_of parcels) cell ≡ serial job.ops (length job.ops) cell)
    (sym c.unload-parcels.ensures)
    (parcels_tell job c.requires.job.layout (serial job.ops (length job.ops)) slots are cell is_cell)

use Rattle.std.proofs.Common.{Contains, None}
use Rattle.std.proofs.lemmas.List.Elements.{All-contains}
use Rattle.waff_model.specs.Cells.{cells_of}
use Rattle.waff_model.specs.Layout.{IsCell}
use Rattle.waff_assign.specs.Lowest.{IsUnlockedAmong}
use Rattle.waff_limits.specs.Lifted.{IsOutside}
use Rattle.waff_limits.proofs.FirstCells.{first_same}
use Rattle.waff_limits.proofs.lifted.first_cell.Goals as goal

pub unreachable-requires : goal.unreachable-requires
unreachable-requires c =
    let some = c.requires.some in
    c.in-None.ensures some.0 some.1.0 (some.1.1, tt)

pub returns-clause-first : goal.returns-clause-first
returns-clause-first c =
    let layout = c.args.layout.now in
    let cells = cells_of c.args.ops.now in
    first_same (λ cell. Contains cells cell × IsOutside layout None cell) (IsUnlockedAmong layout (cells_of c.args.ops.now)) c.in-Some.cell
    (λ cell has. (has.0, has.1.0)) (λ cell has. (has.0, (has.1, tt))) c.in-Some.ensures

pub returns-clause-within : goal.returns-clause-within
returns-clause-within c =
    All-contains (IsCell c.args.layout.now.spaces) (cells_of c.args.ops.now) c.in-Some.cell c.requires.cells c.in-Some.ensures.has.0

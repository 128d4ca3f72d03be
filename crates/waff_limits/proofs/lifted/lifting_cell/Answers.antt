use Rattle.std.proofs.Common.{Contains, Some}
use Rattle.std.proofs.lemmas.List.Elements.{All-contains}
use Rattle.waff_model.specs.Cells.{cells_of}
use Rattle.waff_model.specs.Layout.{IsCell, owner_of}
use Rattle.waff_model.specs.Tree.{AtOrAbove}
use Rattle.waff_assign.specs.Lowest.{IsUnlockedAmong}
use Rattle.waff_limits.specs.Lifted.{IsOutside}
use Rattle.waff_limits.proofs.FirstCells.{first_same}
use Rattle.waff_limits.proofs.LiftLemmas.{first_lifts, some_outside}
use Rattle.waff_limits.proofs.lifted.lifting_cell.Goals as goal

pub unreachable-requires : goal.unreachable-requires
unreachable-requires c =
    let layout = c.args.layout.now in
    some_outside layout c.space_count.ensures.layout (IsUnlockedAmong layout (cells_of c.args.ops.now)) c.args.affinity.0 c.requires.lowest
    c.args.first c.requires.first.has c.args.below.0 c.requires.below c.requires.above
    (λ cell has outside. c.in-None.ensures cell has.0 (has.1, outside))

pub returns-clause-lifting : goal.returns-clause-lifting
returns-clause-lifting c =
    let layout = c.args.layout.now in
    let cells = cells_of c.args.ops.now in
    let Has = IsUnlockedAmong layout (cells_of c.args.ops.now) in
    let found = first_same (λ cell. Contains cells cell × IsOutside layout (Some c.args.below.0) cell)
    (λ cell. Has cell × ¬ AtOrAbove layout.tree c.args.below.0 (owner_of layout.spaces cell)) c.in-Some.cell
    (λ cell has. ((has.0, has.1.0), has.1.1)) (λ cell has. (has.0.0, (has.0.1, has.1))) c.in-Some.ensures in
    first_lifts layout c.space_count.ensures.layout Has c.args.affinity.0 c.requires.lowest
    c.args.first c.requires.first.has c.args.below.0 c.requires.below c.requires.above c.in-Some.cell c.requires.first found

pub returns-clause-within : goal.returns-clause-within
returns-clause-within c =
    All-contains (IsCell c.args.layout.now.spaces) (cells_of c.args.ops.now) c.in-Some.cell c.requires.cells c.in-Some.ensures.has.0

use Rattle.std.proofs.Common.{Some, refl, sym, subst}
use Rattle.waff_model.specs.Cells.{cells_of}
use Rattle.waff_assign.specs.Lowest.{IsAffinityOf}
use Rattle.waff_assign.proofs.Assignments.{cells_of_layout}
use Rattle.waff_limits.specs.Lifted.{IsHighIn}
use Rattle.waff_limits.proofs.InnerLemmas.{marked_within}
use Rattle.waff_limits.proofs.LiftedLists.{is_lift}
use Rattle.waff_limits.proofs.lifted.lift_of.Goals as goal

pub first_cell-cell-requires-clause-cells : goal.first_cell-cell-requires-clause-cells
first_cell-cell-requires-clause-cells c =
    let laid = c.args.laid.now in
    cells_of_layout laid.case.trace.now.sizes laid.layout.now.spaces (cells_of c.message-message.result.now.ops) laid.fits c.message-message.ensures.within.cells

pub other_cell-other-requires-clause-cells : goal.other_cell-other-requires-clause-cells
other_cell-other-requires-clause-cells c =
    let laid = c.args.laid.now in
    cells_of_layout laid.case.trace.now.sizes laid.layout.now.spaces (cells_of c.message-message.result.now.ops) laid.fits c.message-message.ensures.within.cells

-- the affinity is the lowest that covers the cells without locks, of which there is one
pub first_cell-cell-requires-clause-some : goal.first_cell-cell-requires-clause-some
first_cell-cell-requires-clause-some c =
    let message = c.message-message.result.now in
    let held = c.requires.assignment.each c.args.n message c.requires.number.from c.message-message.ensures.message in
    let affinity : IsAffinityOf c.args.laid.now.layout.now message.ops (Some c.in_ok-affinity.affinity.0)
    = subst (IsAffinityOf c.args.laid.now.layout.now message.ops) (sym c.in_ok-affinity.ensures) held.affinity in
    affinity.0

pub other_cell-other-requires-clause-lowest : goal.other_cell-other-requires-clause-lowest
other_cell-other-requires-clause-lowest c =
    let message = c.message-message.result.now in
    let held = c.requires.assignment.each c.args.n message c.requires.number.from c.message-message.ensures.message in
    let affinity : IsAffinityOf c.args.laid.now.layout.now message.ops (Some c.in_ok-affinity.affinity.0)
    = subst (IsAffinityOf c.args.laid.now.layout.now message.ops) (sym c.in_ok-affinity.ensures) held.affinity in
    affinity.1

pub returns : goal.returns
returns c =
    let laid = c.args.laid.now in
    let layout = laid.layout.now in
    let assigned = laid.case.assigned.now in
    let message = c.message-message.result.now in
    let a = c.in_ok-affinity.affinity.0 in
    let cell = c.first_cell-cell.result in
    let other = c.other_cell-other.result in
    let marked = marked_within c.args.inner.now layout.tree a c.requires.inner.long c.if-not-inner-affinity.false in
    let high : IsHighIn layout.tree assigned c.args.n a = record {
      affinity = sym c.in_ok-affinity.ensures;
      inner = (c.requires.inner.each a marked).0 c.if-not-inner-affinity.false;
    } in (
      refl,
      record { message = c.requires.number; cell = c.first_cell-cell.ensures.within; other = c.other_cell-other.ensures.within },
      is_lift layout laid.case.trace.now.messages assigned c.args.n message c.message-message.ensures.message cell other a c.requires.number high c.other_cell-other.ensures.lifting,
    )

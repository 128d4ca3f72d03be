use Rattle.std.proofs.Common.{take, refl, ◌∙◌, subst}
use Rattle.waff_model.specs.Cells.{cells_of, cells_of_op}
use Rattle.waff_model.specs.Layout.{IsCell}
use Rattle.waff_core.specs.Owners.{AreAdded, owners_in}
use Rattle.waff_core.proofs.Listing.{added_none, added_both, cells_found, owners_more}
use Rattle.waff_core.proofs.owners.push_owners.Goals as goal

pub push_owners_of_op-requires : goal.push_owners_of_op-requires
push_owners_of_op-requires c = record {
  layout = c.requires.layout;
  count = c.loop-at.invariant.0 ∙ c.requires.count;
  cells = cells_found (IsCell c.args.table.now.spaces) c.args.ops.now c.loop-at.at c.get.result c.get.ensures c.requires.cells;
}

pub loop-at-init : goal.loop-at-init
loop-at-init c = (refl, added_none c.args.owners.now.owners)

pub loop-at-preserved : goal.loop-at-preserved
loop-at-preserved c =
    let spaces = c.args.table.now.spaces in
    let was = c.args.owners.now.owners in
    let now = c.push_owners_of_op.new.owners.owners in (
      c.in_ok-push_owners_of_op.ensures.count ∙ c.loop-at.invariant.0,
      subst (λ more. AreAdded more was now) (owners_more spaces c.args.ops.now c.loop-at.at c.get.result c.get.ensures)
          (added_both (owners_in spaces (cells_of (take c.loop-at.at c.args.ops.now))) (owners_in spaces (cells_of_op c.get.result)) was
          c.loop-at.owners.owners now c.loop-at.invariant.1 c.in_ok-push_owners_of_op.ensures.added),
    )

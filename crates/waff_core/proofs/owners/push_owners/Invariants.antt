use Rattle.std.proofs.Common.{◌≡◌, take}
use Rattle.waff_model.specs.Cells.{cells_of}
use Rattle.waff_core.specs.Owners.{AreAdded, owners_in}
use Rattle.waff_core.proofs.owners.push_owners.Given as goal

abbrev pub invariant-loop-at : goal.invariant-loop-at
invariant-loop-at l =
    (l.owners.count ≡ l.initial.owners.count)
    × AreAdded (owners_in l.table.spaces (cells_of (take l.at l.ops))) l.initial.owners.owners l.owners.owners

use Rattle.std.proofs.Common.{◌≡◌, ◌-◌, length}
use Rattle.waff_cells.specs.Serial.{operations}
use Rattle.waff_core.proofs.Listing.{AreOwnersUpTo}
use Rattle.waff_core.proofs.owners.list_owners.Given as goal

abbrev pub invariant-loop-n : goal.invariant-loop-n
invariant-loop-n l =
    (l.owners.count ≡ length l.table.tree)
    × AreOwnersUpTo l.table.spaces (operations l.trace.messages) l.lists (l.n - 1)

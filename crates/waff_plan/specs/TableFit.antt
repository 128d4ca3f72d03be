-- What a table is of: a tree with its spans, and what is held under it.
use Rattle.std.specs.Prelude.{◌≡◌, ◌≤◌, length}
use Rattle.waff_model.specs.Tree.{IsTree}
use Rattle.waff_model.specs.Preorder.{AreNested}
use Rattle.waff_model.specs.declared.limits.TheConstants.{MAX_MESSAGES}
use Rattle.waff_assign.specs.Held.{AreKnown, AreLocksBelow}
use Rattle.waff_plan.specs.Table.{LatestTable}

-- there is an entry for each place, and one for each lock
pub record Fits (table : LatestTable) : Type 0 where
  pub is_tree : IsTree table.tree
  pub nested : AreNested table.tree table.spans
  pub known : AreKnown table.tree table.assigned
  pub few : length table.assigned ≤ MAX_MESSAGES
  pub places : length table.places.own ≡ length table.tree
  pub below : AreLocksBelow (length table.locks.locks.items) table.assigned

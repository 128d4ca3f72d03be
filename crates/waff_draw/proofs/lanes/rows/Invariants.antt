use Rattle.std.proofs.Common.{◌≡◌, length}
use Rattle.waff_draw.proofs.LaneLemmas.{AreRows}
use Rattle.waff_draw.proofs.lanes.rows.Given as goal

abbrev pub invariant-loop-row : goal.invariant-loop-row
invariant-loop-row l = record {
  count : length l.rows.items ≡ l.count;
  are : AreRows l.row l.lanes l.rows.items;
}

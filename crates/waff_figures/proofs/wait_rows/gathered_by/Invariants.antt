use Rattle.std.proofs.Common.{◌*◌, ◌^◌, ◌≤◌, All, take}
use Rattle.waff_figures.proofs.WaitKinds.{AreSoFar}
use Rattle.waff_figures.proofs.wait_rows.gathered_by.Given as goal

abbrev pub invariant-loop-wait : goal.invariant-loop-wait
invariant-loop-wait l = record {
  told : AreSoFar l.groups l.cells (take l.wait-index l.waits) l.rows.items l.kinds.keys;
  few : All (λ row. row.messages ≤ l.wait-index) l.rows.items;
  short : All (λ row. row.ticks ≤ 2 ^ 64 * l.wait-index) l.rows.items;
}

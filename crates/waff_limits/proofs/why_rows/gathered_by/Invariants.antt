use Rattle.std.proofs.Common.{◌*◌, ◌^◌, ◌≤◌, All, take}
use Rattle.waff_limits.proofs.LiftRows.{AreSoFar}
use Rattle.waff_limits.proofs.why_rows.gathered_by.Given as goal

abbrev pub invariant-loop-lift : goal.invariant-loop-lift
invariant-loop-lift l = record {
  told : AreSoFar l.groups l.layout.spaces (take l.lift-index l.lifts) l.rows.items l.kinds.keys;
  few : All (λ row. row.messages ≤ l.lift-index) l.rows.items;
  small : All (λ row. row.cost ≤ 2 ^ 32 * l.lift-index) l.rows.items;
}

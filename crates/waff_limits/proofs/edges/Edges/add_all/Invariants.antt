use Rattle.std.proofs.Common.{ℕ, take}
use Rattle.waff_model.specs.declared.cell.Cell.{Cell}
use Rattle.waff_limits.specs.Data.{used_among}
use Rattle.waff_limits.specs.Edges.{AreUsed, edges_of}
use Rattle.waff_limits.proofs.edges.Edges.add_all.Given as goal

abbrev pub invariant-loop-at : goal.invariant-loop-at
invariant-loop-at l = (used : Cell → ℕ) → AreUsed (edges_of l.initial.self) used → AreUsed (edges_of l.self) (used_among (take l.at l.cells) used l.cost)

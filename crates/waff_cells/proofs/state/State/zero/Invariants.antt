use Rattle.std.proofs.Common.{◌≡◌, map, take}
use Rattle.waff_model.specs.Messages.{sizes_of}
use Rattle.waff_cells.proofs.Zeros.{zero_rows}
use Rattle.waff_cells.proofs.state.State.zero.Given as goal

abbrev pub invariant-loop-s : goal.invariant-loop-s
invariant-loop-s l = map (λ row. row.items) l.rows.items ≡ zero_rows (take l.s (sizes_of l.layout.spaces))

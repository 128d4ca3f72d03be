use Rattle.std.proofs.Common.{◌≡◌, map, vec_capacity}
use Rattle.std.specs.List.{range_with_len}
use Rattle.waff_cells.specs.Held.{rows_of}
use Rattle.waff_cells.specs.Gathered.{cells_of_parcels}
use Rattle.waff_cells.proofs.gather.row_of.Given as goal

abbrev pub invariant-loop-index : goal.invariant-loop-index
invariant-loop-index l = record {
  numbers : l.row.items ≡ map (λ i. cells_of_parcels l.table.spaces (rows_of l.parcels) (record { space = l.s; index = i })) (range_with_len 0 l.index);
  room : vec_capacity l.row ≡ l.size;
}

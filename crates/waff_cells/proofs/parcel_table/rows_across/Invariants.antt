use Rattle.std.proofs.Common.{◌≡◌, ◌+◌, length, map, vec_capacity}
use Rattle.std.specs.List.{range_with_len}
use Rattle.waff_model.specs.Layout.{owner_of}
use Rattle.waff_model.specs.Parcel.{cells_ahead, offset_of}
use Rattle.waff_cells.specs.ParcelTable.{AreCounted}
use Rattle.waff_cells.proofs.parcel_table.rows_across.Given as goal

abbrev pub invariant-loop-index : goal.invariant-loop-index
invariant-loop-index l = record {
  owners : l.owners.items ≡ map (λ i. owner_of l.layout.spaces (record { space = l.s; index = i })) (range_with_len 0 l.index);
  offsets : l.offsets.items ≡ map (λ i. offset_of l.layout.spaces (record { space = l.s; index = i })) (range_with_len 0 l.index);
  count : length l.counts ≡ length l.layout.tree;
  counted : AreCounted l.layout.spaces (cells_ahead l.layout.spaces l.s + l.index) l.counts;
  owners_room : vec_capacity l.owners ≡ l.size;
  offsets_room : vec_capacity l.offsets ≡ l.size;
}

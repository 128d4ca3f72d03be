use Rattle.std.proofs.Common.{◌≡◌, length, map}
use Rattle.std.specs.List.{range_with_len}
use Rattle.waff_model.specs.Layout.{owner_of}
use Rattle.waff_model.specs.Parcel.{cells_ahead, offset_of}
use Rattle.waff_cells.specs.Held.{rows_of}
use Rattle.waff_cells.specs.ParcelTable.{AreCounted, across}
use Rattle.waff_cells.proofs.parcel_table.ParcelTable.new.Given as goal

abbrev pub invariant-loop-s : goal.invariant-loop-s
invariant-loop-s l = record {
  owners : rows_of l.owners.items ≡ map (across l.layout.spaces (owner_of l.layout.spaces)) (range_with_len 0 l.s);
  offsets : rows_of l.offsets.items ≡ map (across l.layout.spaces (offset_of l.layout.spaces)) (range_with_len 0 l.s);
  count : length l.sizes.items ≡ length l.layout.tree;
  counted : AreCounted l.layout.spaces (cells_ahead l.layout.spaces l.s) l.sizes.items;
}

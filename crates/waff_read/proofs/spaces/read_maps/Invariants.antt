use Rattle.std.proofs.Common.{◌≡◌, length, map, take, vec_capacity}
use Rattle.toml.specs.View.{view}
use Rattle.waff_read.specs.Spaces.{map_of}
use Rattle.waff_read.proofs.spaces.read_maps.Given as goal

abbrev pub invariant-loop-row : goal.invariant-loop-row
invariant-loop-row l = record {
  rows : l.maps.items ≡ map (λ row. map_of (view row)) (take l.row-index l.rows);
  count : length l.maps.items ≡ l.row-index;
  room : vec_capacity l.maps ≡ length l.rows;
}

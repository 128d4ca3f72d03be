use Rattle.std.proofs.Common.{◌≡◌, length, map, take, vec_capacity}
use Rattle.toml.specs.View.{view}
use Rattle.waff_read.specs.Spaces.{space_of}
use Rattle.waff_read.proofs.spaces.read_spaces.Given as goal

abbrev pub invariant-loop-row : goal.invariant-loop-row
invariant-loop-row l = record {
  rows : l.spaces.items ≡ map (λ row. space_of l.format (view row)) (take l.row-index l.rows);
  count : length l.spaces.items ≡ l.row-index;
  room : vec_capacity l.spaces ≡ length l.rows;
}

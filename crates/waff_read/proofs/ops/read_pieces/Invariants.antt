use Rattle.std.proofs.Common.{◌≡◌, ◌+◌, ◌≤◌, length, map}
use Rattle.waff_read.specs.Pieces.{first_ops}
use Rattle.waff_read.proofs.OpsLaws.{ops_so_far, so_far}
use Rattle.waff_read.proofs.ops.read_pieces.Given as goal

-- the operations kept, or the fault, are those of the pieces so far
abbrev pub invariant-loop-piece : goal.invariant-loop-piece
invariant-loop-piece l = record {
  read : so_far l.fault l.list ≡ first_ops l.most (ops_so_far l.version l.spaces (map (λ piece. piece.now) l.yielded));
  few : length l.list ≤ l.most + 1;
}

use Rattle.std.proofs.Common.{take, ◌≡◌, ℕ, List, Option, map, true, ◌+◌, ◌-◌, ◌*◌, ◌<◌, ◌≤◌, length}
use Rattle.std.specs.List.{flat_map}
use Rattle.std.specs.Io.KnownBytes.{Appends}
use Rattle.waff_io.specs.Writing.{WritesOrFails}
use Rattle.waff_io.proofs.stream.write_apart.Given as goal

abbrev pub invariant-loop-piece : goal.invariant-loop-piece
invariant-loop-piece g l =
    Appends (g.S.ErrorStream.holds l.initial.stream) (g.S.ErrorStream.holds l.stream) (flat_map (λ piece. piece.now) (take l.piece-index l.pieces))

use Rattle.std.proofs.Common.{◌≡◌, map}
use Rattle.waff_board.specs.Openings.{zero_parcels_of}
use Rattle.waff_board.proofs.opening.zero_parcels.Given as goal

abbrev pub invariant-loop-a : goal.invariant-loop-a
invariant-loop-a l = map (λ parcel. parcel.items) l.parcels.items ≡ zero_parcels_of l.table.spaces l.a

use Rattle.std.proofs.Common.{◌≡◌, ◌+◌}
use Rattle.waff_model.specs.Parcel.{cells_ahead, owned_among}
use Rattle.waff_model.proofs.parcels.count_on.Given as goal

abbrev pub invariant-loop-index : goal.invariant-loop-index
invariant-loop-index l = l.count ≡ owned_among l.layout.spaces (cells_ahead l.layout.spaces l.s + l.index) l.a.0

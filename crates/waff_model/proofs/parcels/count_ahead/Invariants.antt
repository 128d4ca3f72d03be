use Rattle.std.proofs.Common.{◌≡◌}
use Rattle.waff_model.specs.Parcel.{cells_ahead, owned_among}
use Rattle.waff_model.proofs.parcels.count_ahead.Given as goal

abbrev pub invariant-loop-before : goal.invariant-loop-before
invariant-loop-before l = l.count ≡ owned_among l.layout.spaces (cells_ahead l.layout.spaces l.before) l.a.0

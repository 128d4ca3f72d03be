use Rattle.std.specs.Prelude.{option_map}
use Rattle.std.proofs.Common.{◌≡◌, take}
use Rattle.waff_model.specs.Cells.{cells_of}
use Rattle.waff_limits.specs.Writes.{cells_alone}
use Rattle.waff_limits.proofs.writes.needs_all.Given as goal

abbrev pub invariant-loop-index : goal.invariant-loop-index
invariant-loop-index l = cells_alone (option_map (λ l. l.now.spaces) l.sharing) (take l.index l.ops) ≡ cells_of (take l.index l.ops)

use Rattle.std.proofs.Common.{◌≡◌, ◌+◌, drop}
use Rattle.waff_draw.specs.Loose.{first_free}
use Rattle.waff_draw.proofs.loose.first_free.Given as goal

abbrev pub invariant-loop-lane : goal.invariant-loop-lane
invariant-loop-lane l = l.lane + first_free l.tick (drop l.lane l.ends) ≡ first_free l.tick l.ends

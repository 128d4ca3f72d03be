use Rattle.std.proofs.Common.{◌≡◌, ◌-◌, take}
use Rattle.waff_model.specs.DistinctNames.{message_names}
use Rattle.waff_draw.specs.Colours.{coloured}
use Rattle.waff_draw.proofs.colours.Colours.new.Given as goal

abbrev pub invariant-loop-n : goal.invariant-loop-n
invariant-loop-n l = l.names ≡ coloured (take (l.n - 1) (message_names l.trace.messages))

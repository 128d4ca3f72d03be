use Rattle.std.proofs.Common.{◌≡◌}
use Rattle.waff_model.specs.Layout.{unlocked_space}
use Rattle.waff_model.specs.Spans.{map_in}
use Rattle.waff_model.proofs.layout.unlock.Given as goal

abbrev pub invariant-loop-space : goal.invariant-loop-space
invariant-loop-space l = l.space-items ≡ map_in unlocked_space l.initial.space-items 0 l.space-index

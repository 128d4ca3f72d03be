use Rattle.std.proofs.Common.{◌≡◌, drop}
use Rattle.waff_draw.specs.Axis.{first_step}
use Rattle.waff_draw.proofs.axis.first_step.Given as goal

abbrev pub invariant-loop-step : goal.invariant-loop-step
invariant-loop-step l = first_step l.length (drop l.step-index l.steps) ≡ first_step l.length l.steps

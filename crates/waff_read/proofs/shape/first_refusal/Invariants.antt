use Rattle.std.proofs.Common.{◌≡◌, drop}
use Rattle.waff_model.specs.Refusals.{first_refusal}
use Rattle.waff_read.proofs.shape.first_refusal.Given as goal

abbrev pub invariant-loop-holds : goal.invariant-loop-holds
invariant-loop-holds l = first_refusal (drop l.holds-index l.checks) ≡ first_refusal l.checks

use Rattle.std.proofs.Common.{◌≡◌, true, All, take}
use Rattle.waff_core.specs.Shown.{marked}
use Rattle.waff_core.proofs.steps.Machine.are_done.Given as goal

abbrev pub invariant-loop-at : goal.invariant-loop-at
invariant-loop-at l = All (λ n. marked l.self.done.items n ≡ true) (take l.at l.messages)

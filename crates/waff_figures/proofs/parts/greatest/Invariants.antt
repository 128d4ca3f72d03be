use Rattle.std.proofs.Common.{◌≡◌, take}
use Rattle.waff_plan.specs.Work.{greatest}
use Rattle.waff_figures.proofs.parts.greatest.Given as goal

abbrev pub invariant-loop-n : goal.invariant-loop-n
invariant-loop-n l = l.greatest ≡ greatest (take l.n-index l.numbers)

use Rattle.waff_core.specs.Shown.{core_in}
use Rattle.waff_core.proofs.Lending.{AreHomeUpTo}
use Rattle.waff_core.proofs.homes.homes.Given as goal

abbrev pub invariant-loop-at : goal.invariant-loop-at
invariant-loop-at l = AreHomeUpTo l.job (core_in l.machine) l.home.items l.at

use Rattle.waff_core.proofs.Lending.{AreLent}
use Rattle.waff_core.proofs.homes.lend.Given as goal

abbrev pub invariant-loop-at : goal.invariant-loop-at
invariant-loop-at l = AreLent l.initial.home l.owners l.home l.at

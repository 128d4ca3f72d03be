use Rattle.waff_record.specs.Left.{AreLeftOf}
use Rattle.waff_record.proofs.left.numbers_left.Given as goal

abbrev pub invariant-loop-at : goal.invariant-loop-at
invariant-loop-at l = AreLeftOf l.turns l.tick l.at l.kept.items

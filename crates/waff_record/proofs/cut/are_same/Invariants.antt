use Rattle.waff_record.proofs.Alike.{AreSameBelow}
use Rattle.waff_record.proofs.cut.are_same.Given as goal

abbrev pub invariant-loop-at : goal.invariant-loop-at
invariant-loop-at l = AreSameBelow l.ops l.other l.at

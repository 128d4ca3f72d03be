use Rattle.waff_record.proofs.CutBelow.{AreCutBelow}
use Rattle.waff_record.proofs.cut.is_cut.Given as goal

abbrev pub invariant-loop-k : goal.invariant-loop-k
invariant-loop-k l = AreCutBelow l.kept l.trace l.cut l.plan l.cut_plan l.k

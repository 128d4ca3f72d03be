use Rattle.waff_io.proofs.SplitLemmas.{NoneBefore}
use Rattle.waff_io.proofs.split.split_input.Given as goal

abbrev pub invariant-loop-place : goal.invariant-loop-place
invariant-loop-place l = NoneBefore l.input l.place

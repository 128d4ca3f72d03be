use Rattle.std.proofs.Common.{◌≡◌, ◌+◌, length}
use Rattle.waff_run.proofs.opening.identities.Given as goal

abbrev pub invariant-loop-file : goal.invariant-loop-file
invariant-loop-file l = length l.all.items ≡ l.file-index

abbrev pub invariant-loop-input : goal.invariant-loop-input
invariant-loop-input l = length l.all.items ≡ length l.files + 1 + l.input-index

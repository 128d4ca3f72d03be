use Rattle.std.proofs.Common.{◌≡◌, ◌+◌, length}
use Rattle.waff_cli.proofs.files.push_files.Given as goal

abbrev pub invariant-loop-at : goal.invariant-loop-at
invariant-loop-at g l = length l.files.items ≡ length l.initial.files.items + l.at

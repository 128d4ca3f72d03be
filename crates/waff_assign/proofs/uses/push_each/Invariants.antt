use Rattle.std.proofs.Common.{◌≡◌, ◌++◌, drop}
use Rattle.waff_assign.specs.Uses.{uses_from}
use Rattle.waff_assign.proofs.uses.push_each.Given as goal

abbrev pub invariant-loop-each : goal.invariant-loop-each
invariant-loop-each l = l.uses.items ++ uses_from l.next (drop l.each-index l.seen) ≡ l.initial.uses.items ++ uses_from 0 l.seen

use Rattle.std.proofs.Common.{◌≡◌, ◌++◌, take}
use Rattle.waff_assign.specs.Order.{helds_of}
use Rattle.waff_assign.proofs.gathered.Gathered.append.Given as goal

abbrev pub invariant-loop-k : goal.invariant-loop-k
invariant-loop-k l = l.self ≡ l.initial.self ++ take l.k (helds_of l.affinities.items l.uses.items l.ends.items)

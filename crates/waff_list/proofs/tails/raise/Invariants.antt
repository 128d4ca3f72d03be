use Rattle.std.proofs.Common.{take, Contains}
use Rattle.waff_list.specs.Tails.{AreRaised}
use Rattle.waff_list.proofs.tails.raise.Given as goal

abbrev pub invariant-loop-m : goal.invariant-loop-m
invariant-loop-m l = AreRaised l.initial.tails (Contains (take l.m-index l.messages)) (λ m. 0) l.tail l.tails

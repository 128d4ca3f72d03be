use Rattle.std.proofs.Common.{◌-◌, take}
use Rattle.waff_order.specs.Joined.{HaveJoined}
use Rattle.waff_order.proofs.predecessors.needs.Given as goal

abbrev pub invariant-loop-m : goal.invariant-loop-m
invariant-loop-m l = HaveJoined l.tree l.spans (take (l.m - 1) l.assigned) l.joining

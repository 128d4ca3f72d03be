use Rattle.std.proofs.Common.{All, take}
use Rattle.waff_core.specs.Orders.{IsMarked}
use Rattle.waff_core.proofs.order.are_marked.Given as goal

abbrev pub invariant-loop-at : goal.invariant-loop-at
invariant-loop-at l = All (IsMarked l.marks) (take l.at l.messages)

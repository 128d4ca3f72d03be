use Rattle.std.proofs.Common.{◌≡◌, ◌-◌, map}
use Rattle.std.specs.List.{range_with_len}
use Rattle.waff_assign.specs.Order.{held_of}
use Rattle.waff_order.specs.Joined.{HaveJoined}
use Rattle.waff_line.proofs.queue.first_order.Given as goal

abbrev pub invariant-loop-m : goal.invariant-loop-m
invariant-loop-m l = record {
  joined : HaveJoined l.case.tree.now l.order.spans.now (map (held_of l.case.assigned.now) l.order.messages.items) l.order.joining;
  messages : l.order.messages.items ≡ range_with_len 1 (l.m - 1);
}

use Rattle.std.proofs.Common.{◌≡◌, ◌-◌, vec_capacity}
use Rattle.std.specs.List.{range_with_len}
use Rattle.waff_tool.proofs.replays.order_by_number.Given as goal

abbrev pub invariant-loop-n : goal.invariant-loop-n
invariant-loop-n l = record {
  items : l.order.items ≡ range_with_len 1 (l.n - 1);
  room : vec_capacity l.order ≡ l.messages;
}

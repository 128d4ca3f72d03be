use Rattle.std.proofs.Common.{◌≡◌, length}
use Rattle.waff_tool.proofs.ranks.empty_slots.Given as goal

abbrev pub invariant-loop : goal.invariant-loop
invariant-loop l = length l.slots.items ≡ l.counter

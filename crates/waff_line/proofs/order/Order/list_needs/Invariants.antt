use Rattle.std.proofs.Common.{◌≡◌, map, take}
use Rattle.waff_line.specs.Lined.{served_at}
use Rattle.waff_line.proofs.order.Order.list_needs.Given as goal

abbrev pub invariant-loop-need : goal.invariant-loop-need
invariant-loop-need l = l.list.items ≡ map (served_at l.self.messages.items) (take l.need-index l.need-items)

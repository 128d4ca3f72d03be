use Rattle.std.proofs.Common.{◌≡◌, ◌≤◌, None, replicate, vec_capacity}
use Rattle.waff_plan_text.proofs.slots.Slots.new.Given as goal

abbrev pub invariant-loop-message : goal.invariant-loop-message
invariant-loop-message l = record {
  places : l.places.items ≡ replicate l._message None;
  room : l.messages ≤ vec_capacity l.places;
}

use Rattle.std.proofs.Common.{◌≡◌, ◌+◌, ◌-◌, ◌≤◌, ◌++◌, length, vec_capacity}
use Rattle.waff_model.specs.Spans.{map_in, messages_in}
use Rattle.waff_model.proofs.spans.take_each.Given as goal

abbrev pub invariant-loop-place : goal.invariant-loop-place
invariant-loop-place l = record {
  taken : l.list.items ≡ l.initial.list.items ++ messages_in l.initial.places l.initial.from l.place;
  closed : l.places ≡ map_in (λ m. 0) l.initial.places l.initial.from l.place;
  count : length l.places ≡ length l.initial.places;
  few : length l.list.items ≤ length l.initial.list.items + (l.place - l.initial.from);
  room : vec_capacity l.list ≡ vec_capacity l.initial.list;
}

use Rattle.std.proofs.Common.{◌≡◌, ◌+◌, ◌-◌, ◌≤◌, ◌++◌, length, vec_capacity}
use Rattle.waff_model.specs.Blocks.{AreFilled}
use Rattle.waff_model.specs.Spans.{map_in, messages_in}
use Rattle.waff_model.proofs.spans.Opened.take.Given as goal

abbrev pub invariant-loop-at : goal.invariant-loop-at
invariant-loop-at l = record {
  forward : l.initial.from ≤ l.at;
  within : l.at ≤ l.until;
  end : l.self-inside.end ≡ l.initial.self-inside.end;
  filled : AreFilled l.self-inside.places.items l.self-inside.blocks.items;
  taken : l.list.items ≡ l.initial.list.items ++ messages_in l.initial.self-inside.places.items l.initial.from l.at;
  closed : l.self-inside.places.items ≡ map_in (λ m. 0) l.initial.self-inside.places.items l.initial.from l.at;
  room : length l.list.items + (l.until - l.at) ≤ vec_capacity l.list;
}

abbrev pub decreases-loop-at : goal.decreases-loop-at
decreases-loop-at l = l.until - l.at

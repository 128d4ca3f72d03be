use Rattle.std.proofs.Common.{◌≡◌, ◌≤◌, ◌+◌, All, length, vec_capacity}
use Rattle.std.specs.Prelude.{IfSome}
use Rattle.std.specs.Vec.Iter.{into_iter_items, into_iter_len}
use Rattle.waff_parse.specs.Walks.{walk, with_front}
use Rattle.waff_plan_text.specs.PlanTexts.{next_message, row_in, rows_in}
use Rattle.waff_plan_text.specs.Rows.{IsWithinLimit}
use Rattle.waff_plan_text.proofs.slots.Slots.into_rows.Given as goal

abbrev pub invariant-loop-place : goal.invariant-loop-place
invariant-loop-place l = record {
  left : into_iter_len l.place-iterator ≡ length (into_iter_items l.place-iterator);
  turn : l.before + length (into_iter_items l.place-iterator) ≡ length l.fn.self;
  count : length l.rows.items ≡ l.before;
  room : length l.fn.self ≤ vec_capacity l.rows;
  within : All IsWithinLimit l.rows.items;
  slots : All (λ slot. IfSome slot IsWithinLimit) (into_iter_items l.place-iterator);
  rows : with_front l.rows.items (walk row_in next_message l.before (into_iter_items l.place-iterator)) ≡ rows_in l.fn.self;
}

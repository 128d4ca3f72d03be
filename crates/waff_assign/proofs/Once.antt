-- Cells that are listed once, in order.
use Rattle.std.proofs.Common.{◌≡◌, ℕ, suc, ◌+◌, ◌-◌, ◌≤◌, inl, inr, List, [], ◌∷◌, ◌++◌, length, Some, slice_get, take, drop, Contains, arith, sym, ◌∙◌, ap, subst, length-append}
use Rattle.std.specs.Prelude.{slice_range}
use Rattle.std.specs.List.{dedup}
use Rattle.std.specs.List.Sorted.{IsPermutation, IsSorted}
use Rattle.std.proofs.Math.Seq.{drop-cons, take-add}
use Rattle.std.proofs.lemmas.Grind.{flat_map-append}
use Rattle.std.proofs.lemmas.List.{append-nil, drop-drop, take_all}
use Rattle.std.proofs.lemmas.Option.{get_or_from_slice_get, slice_get_within}
use Rattle.std.proofs.lemmas.List.Elements.{Contains-append_cases, Contains-append_left, Contains-append_right}
use Rattle.std.proofs.lemmas.List.Kept.{Contains-dedup, Contains-from_dedup, IsStrictlySortedBy-dedup}
use Rattle.std.proofs.lemmas.List.Sorted.{Contains-permutation, IsPermutation-sym}
use Rattle.waff_model.specs.Cells.{cells_of}
use Rattle.waff_model.specs.Layout.{Hierarchy, Space}
use Rattle.waff_model.specs.Messages.{ops_in}
use Rattle.waff_model.specs.declared.cell.Cell.{Cell}
use Rattle.waff_model.specs.declared.limits.TheConstants.{MAX_ALL_OPS}
use Rattle.waff_model.specs.declared.message.Message.{Message}
use Rattle.waff_assign.specs.Footprint.{cell_cmp, cell_eq}
use Rattle.waff_assign.specs.Lowest.{ListsLocks}
use Rattle.waff_assign.specs.Uses.{Adds, AreLocks, ListsOnce, all_locked_cells, locked_cells, locked_cells_between}
use Rattle.waff_assign.proofs.CellOrder.{cell_cmp_total, cell_eq_equiv, cell_eq_same, cell_eq_ties}
use Rattle.waff_assign.proofs.Numbering.{locked_few, locked_from, locked_has}

-- cells that are sorted, and then kept once
pub kept_once : (cells sorted kept : List Cell) → IsPermutation cells sorted → length sorted ≡ length cells → IsSorted cell_cmp sorted
    → kept ≡ dedup cell_eq sorted → length kept ≤ length sorted → ListsOnce cells kept
kept_once cells sorted kept moved same rises is bound = record {
  each = λ cell. (
    λ has.
        Contains-permutation sorted cells cell (IsPermutation-sym cells sorted moved)
        (Contains-from_dedup cell_eq sorted cell (subst (λ xs. Contains xs cell) is has)),
    λ has.
        subst (λ xs. Contains xs cell) (sym is)
        (Contains-dedup cell_eq_equiv cell_eq_same sorted cell (Contains-permutation cells sorted cell moved has)),
  );
  rising = rw is (IsStrictlySortedBy-dedup cell_cmp_total cell_eq_ties sorted rises);
  few = omega (arith, same, bound);
}

-- cells that were added to none
pub once_of_added : (named cells kept : List Cell) → Adds [] cells named → ListsOnce cells kept → ListsOnce named kept
once_of_added named cells kept added once = record {
  each = λ cell. (λ has. (added.each cell).0 ((once.each cell).0 has), λ has. (once.each cell).1 ((added.each cell).1 has));
  rising = once.rising;
  few = omega (arith, added.few, once.few);
}

-- and those of two lists
pub once_of_both : (x y a b kept : List Cell) → ListsOnce x a → ListsOnce y b → ListsOnce (a ++ b) kept → ListsOnce (x ++ y) kept
once_of_both x y a b kept first second once = record {
  each = λ cell. (
    λ has. elim (Contains-append_cases a b cell ((once.each cell).0 has)) [
      | inl front ↦ Contains-append_left x y cell ((first.each cell).0 front)
      | inr back ↦ Contains-append_right x y cell ((second.each cell).0 back)
    ],
    λ has. (once.each cell).1 (elim (Contains-append_cases x y cell has) [
      | inl front ↦ Contains-append_left a b cell ((first.each cell).1 front)
      | inr back ↦ Contains-append_right a b cell ((second.each cell).1 back)
    ]),
  );
  rising = once.rising;
  few = omega (arith, first.few, second.few, once.few, length-append a b, length-append x y);
}

-- the cells of two parts are those of both
pub between_both : (spaces : List Space) (messages : List Message) (before middle end : ℕ) → before ≤ middle → middle ≤ end
    → locked_cells_between spaces messages before middle ++ locked_cells_between spaces messages middle end ≡ locked_cells_between spaces messages before end
between_both spaces messages before middle end low high =
    let rest = drop before messages in
    let place : before + (middle - before) ≡ middle = omega arith in
    let there : drop (middle - before) rest ≡ drop middle messages = drop-drop (middle - before) before messages ∙ ap (λ n. drop n messages) place in
    let whole : middle - before + (end - middle) ≡ end - before = omega arith in
    let all : slice_range messages before end ≡ slice_range messages before middle ++ slice_range messages middle end
    = ap (λ n. take n rest) (sym whole) ∙ take-add (middle - before) (end - middle) rest
    ∙ ap (λ xs. take (middle - before) rest ++ take (end - middle) xs) there in
    sym (flat_map-append (λ (m : Message). locked_cells spaces (cells_of m.ops)) (slice_range messages before middle) (slice_range messages middle end))
    ∙ ap (all_locked_cells spaces) (sym all)

-- a part of no message has none
pub between_none : (spaces : List Space) (messages : List Message) (before end : ℕ) → end ≡ before → locked_cells_between spaces messages before end ≡ []
between_none spaces messages before end same =
    let none : end - before ≡ 0 = omega arith in
    ap (λ n. all_locked_cells spaces (take n (drop before messages))) none

-- one message more
pub between_more : (spaces : List Space) (messages : List Message) (before end past : ℕ) (message : Message) → before ≤ end → past ≡ end + 1
    → slice_get messages end ≡ Some message
    → locked_cells_between spaces messages before end ++ locked_cells spaces (cells_of message.ops) ≡ locked_cells_between spaces messages before past
between_more spaces messages before end past message low is at =
    let count : past - end ≡ 1 = omega arith in
    let one : slice_range messages end past ≡ message ∷ []
    = ap (λ n. take n (drop end messages)) count
    ∙ ap (take 1)
    (drop-cons messages end message (slice_get_within messages end message at)
    ∙ ap (λ m. m ∷ drop (suc end) messages) (get_or_from_slice_get messages end message message at)) in
    let cells : locked_cells_between spaces messages end past ≡ locked_cells spaces (cells_of message.ops)
    = ap (all_locked_cells spaces) one ∙ append-nil (locked_cells spaces (cells_of message.ops)) in
    ap (λ xs. locked_cells_between spaces messages before end ++ xs) (sym cells) ∙ between_both spaces messages before end past low (omega arith)

-- those of all messages are their locks
module _ (layout : Hierarchy) (messages : List Message) (end : ℕ) (cells : List Cell) (all : end ≡ length messages)
    (once : ListsOnce (locked_cells_between layout.spaces messages 0 end) cells) where
  whole : slice_range messages 0 end ≡ messages
  whole = take_all (end - 0) messages (omega arith)

  of_all : ListsOnce (all_locked_cells layout.spaces messages) cells
  of_all = subst (λ xs. ListsOnce (all_locked_cells layout.spaces xs) cells) whole once

  pub locks_of_all : ListsLocks layout messages cells
  locks_of_all = record {
    each = λ cell. (
      λ has. locked_from layout.spaces messages cell ((of_all.each cell).0 has),
      λ named. (of_all.each cell).1 (locked_has layout.spaces messages named.1.0 cell named.0 named.1.1 named.1.2),
    );
    rising = of_all.rising;
  }

  pub are_locks : ops_in messages ≤ MAX_ALL_OPS → AreLocks cells
  are_locks few = record {
    rising = of_all.rising;
    few = omega (arith, of_all.few, locked_few layout.spaces messages, few);
  }

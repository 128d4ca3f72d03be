-- The cells that operations need alone, and what one message more makes of the ticks for which cells are needed alone and shared.
use Rattle.std.proofs.Common.{◌≡◌, ℕ, ◌+◌, ◌-◌, ◌&&◌, not, Bool, true, false, cond, max, List, [], ◌∷◌, ◌++◌, Contains, Option, Some, slice_get, length, take, refl, sym, ◌∙◌, ap, ap₂, arith}
use Rattle.std.specs.Cmp.{both_ways}
use Rattle.std.specs.List.{list_any}
use Rattle.std.proofs.lemmas.List.{flat_map_more, take_more}
use Rattle.std.proofs.lemmas.Map.Views.{Contains-from_any, list_any-from_Contains}
use Rattle.std.proofs.lemmas.Option.{get_or_from_slice_get, slice_get_within}
use Rattle.waff_model.specs.Cells.{cells_of, cells_of_op}
use Rattle.waff_model.specs.Layout.{Space}
use Rattle.waff_model.specs.Numbers.{IsAmongFirst}
use Rattle.waff_model.specs.declared.cell.Cell.{Cell}
use Rattle.waff_model.specs.declared.message.Message.{Message}
use Rattle.waff_model.specs.declared.op.Op.{Op}
use Rattle.waff_model.proofs.OpCells.{cells_of_more}
use Rattle.waff_assign.proofs.CellOrder.{cell_eq_equiv, cell_eq_same}
use Rattle.waff_limits.specs.Data.{is_cell}
use Rattle.waff_limits.specs.Runs.{AreOfRun, is_in_run, used_in_run}
use Rattle.waff_limits.specs.Writes.{alone_cost, cells_alone, cells_alone_by, needs_alone, only_shares, sharing_cost, ticks_alone, ticks_sharing}
use Rattle.waff_limits.specs.declared.runs.Run.{Run}
use Rattle.waff_limits.proofs.Uses.{greatest_with, sum_with}

-- with one operation more
pub alone_more : (sharing : Option (List Space)) (before : List Cell) (ops : List Op) (i : ℕ) (op : Op) → slice_get ops i ≡ Some op
    → (before ++ cells_alone sharing (take i ops)) ++ cells_alone_by sharing op ≡ before ++ cells_alone sharing (take (i + 1) ops)
alone_more sharing before ops i op is =
    flat_map_more (cells_alone_by sharing) before (take i ops) op
    ∙ ap (λ list. before ++ cells_alone sharing list)
    (sym (take_more ops i op (slice_get_within ops i op is) ∙ ap (λ x. take i ops ++ x ∷ []) (get_or_from_slice_get ops i op op is)))

pub none_more : (sharing : Option (List Space)) (ops : List Op) (i : ℕ) (op : Op) → slice_get ops i ≡ Some op → cells_alone sharing (take i ops) ≡ [] → cells_alone_by sharing op ≡ []
    → cells_alone sharing (take (i + 1) ops) ≡ []
none_more sharing ops i op is none also = sym (alone_more sharing [] ops i op is) ∙ ap₂ (λ xs ys. xs ++ ys) none also

pub all_more : (sharing : Option (List Space)) (ops : List Op) (i : ℕ) (op : Op) → slice_get ops i ≡ Some op → cells_alone sharing (take i ops) ≡ cells_of (take i ops)
    → cells_alone_by sharing op ≡ cells_of_op op → cells_alone sharing (take (i + 1) ops) ≡ cells_of (take (i + 1) ops)
all_more sharing ops i op is same also =
    sym (alone_more sharing [] ops i op is) ∙ ap₂ (λ xs ys. xs ++ ys) same also ∙ cells_of_more [] ops i op is

-- lists with the same cells
pub any_same : (xs ys : List Cell) → ((cell : Cell) → Contains xs cell → Contains ys cell) → ((cell : Cell) → Contains ys cell → Contains xs cell) → (cell : Cell)
    → list_any (is_cell cell) xs ≡ list_any (is_cell cell) ys
any_same xs ys into back cell =
    both_ways _ _
    (λ there. list_any-from_Contains cell_eq_equiv cell ys (into cell (Contains-from_any cell_eq_same cell xs there)))
    (λ there. list_any-from_Contains cell_eq_equiv cell xs (back cell (Contains-from_any cell_eq_same cell ys there)))

not_itself : (b : Bool) → (b && not b) ≡ false
not_itself true = refl
not_itself false = refl

module _ (sharing : Option (List Space)) (messages : List Message) (n : ℕ) (message : Message) (number : IsAmongFirst (length messages) n) (is : slice_get messages (n - 1) ≡ Some message) (cell : Cell) where
  abbrev ops : List Op
  ops = message.ops

  -- by whether the message needs the cell alone, and whether it only shares it
  pub written_by : (has : Bool) → has ≡ needs_alone sharing message.ops cell
      → ticks_alone sharing (take (n - 1) messages) cell + cond has message.cost 0 ≡ ticks_alone sharing (take n messages) cell
  written_by has same =
      ap (λ b. ticks_alone sharing (take (n - 1) messages) cell + cond b message.cost 0) same ∙ sym (sum_with (alone_cost sharing cell) messages n message number is)

  pub read_by : (has : Bool) → has ≡ only_shares sharing message.ops cell
      → max (ticks_sharing sharing (take (n - 1) messages) cell) (cond has message.cost 0) ≡ ticks_sharing sharing (take n messages) cell
  read_by has same =
      ap (λ b. max (ticks_sharing sharing (take (n - 1) messages) cell) (cond b message.cost 0)) same ∙ sym (greatest_with (sharing_cost sharing cell) messages n message number is)

  -- where it needs none alone
  pub none_written : cells_alone sharing message.ops ≡ [] → ticks_alone sharing (take (n - 1) messages) cell ≡ ticks_alone sharing (take n messages) cell
  none_written none = omega (arith, written_by false (sym (ap (list_any (is_cell cell)) none)))

  pub run_only_read : cells_alone sharing message.ops ≡ [] → (run : Run) → AreOfRun (cells_of message.ops) run
      → max (ticks_sharing sharing (take (n - 1) messages) cell) (cond (is_in_run run cell) message.cost 0) ≡ ticks_sharing sharing (take n messages) cell
  run_only_read none run are =
      read_by (is_in_run run cell)
      (sym (and_true (list_any (is_cell cell) (cells_of message.ops)) (not (needs_alone sharing message.ops cell)) (ap (λ ws. not (list_any (is_cell cell) ws)) none) ∙ are cell))
    where
      and_true : (a b : Bool) → b ≡ true → (a && b) ≡ a
      and_true true b holds = holds
      and_true false b holds = refl

  -- where it needs all alone
  pub run_written : cells_alone sharing message.ops ≡ cells_of message.ops → (run : Run) → AreOfRun (cells_of message.ops) run
      → used_in_run run (ticks_alone sharing (take (n - 1) messages)) message.cost cell ≡ ticks_alone sharing (take n messages) cell
  run_written all run are = written_by (is_in_run run cell) (sym (ap (list_any (is_cell cell)) all ∙ are cell))

  pub none_only_read : cells_alone sharing message.ops ≡ cells_of message.ops → ticks_sharing sharing (take (n - 1) messages) cell ≡ ticks_sharing sharing (take n messages) cell
  none_only_read all =
      let not_read : only_shares sharing message.ops cell ≡ false
      = ap (λ ws. list_any (is_cell cell) (cells_of message.ops) && not (list_any (is_cell cell) ws)) all ∙ not_itself (list_any (is_cell cell) (cells_of message.ops)) in
      omega (arith, read_by false (sym not_read))

-- What messages need of a cell where those that only read it share it, beside how long they use it.
use Rattle.std.proofs.Common.{◌≡◌, inl, inr, ◌+◌, ◌≤◌, ◌&&◌, ◌||◌, not, Bool, true, false, List, [], ◌∷◌, Some, None, refl, sym, ◌∙◌, ap, arith}
use Rattle.std.specs.List.{list_any}
use Rattle.std.proofs.lemmas.Bool.{cases_Bool, and_parts, cond-false, cond-true}
use Rattle.std.proofs.lemmas.List.Folds.{list_any-append}
use Rattle.std.proofs.lemmas.List.Sums.{sum_by-cons}
use Rattle.waff_model.specs.Cells.{cells_of, cells_of_op, cells_written, cells_written_by}
use Rattle.waff_model.specs.declared.cell.Cell.{Cell}
use Rattle.waff_model.specs.declared.message.Message.{Message}
use Rattle.waff_model.specs.declared.op.Op.{Op}
use Rattle.waff_model.specs.declared.op.Op.TheVariants.{Set, Add, Copy, Swap, Read}
use Rattle.waff_limits.specs.Data.{cost_on, is_cell, ticks_on}
use Rattle.waff_limits.specs.Writes.{only_reads, read_cost, ticks_shared, writes, written_cost}

or_more : (a b : Bool) → (a || false) ≡ true → (a || b) ≡ true
or_more true b is = refl
or_more false b is = cc

or_both : (a b c d : Bool) → (a ≡ true → c ≡ true) → (b ≡ true → d ≡ true) → (a || b) ≡ true → (c || d) ≡ true
or_both true b c d one other is = ap (λ x. x || d) (one refl)
or_both false b true d one other is = refl
or_both false b false d one other is = other is

-- an operation names what it writes, and so do operations
names_by : (cell : Cell) (op : Op) → list_any (is_cell cell) (cells_written_by op) ≡ true → list_any (is_cell cell) (cells_of_op op) ≡ true
names_by cell (Set x value) is = is
names_by cell (Add x value) is = is
names_by cell (Copy x source) is = or_more (is_cell cell x) (list_any (is_cell cell) (source ∷ [])) is
names_by cell (Swap x other) is = is
names_by cell (Read x) is = cc

pub names : (ops : List Op) (cell : Cell) → writes ops cell ≡ true → list_any (is_cell cell) (cells_of ops) ≡ true
names [] cell is = cc
names (op ∷ ops) cell is =
    list_any-append (is_cell cell) (cells_of_op op) (cells_of ops)
    ∙ or_both (list_any (is_cell cell) (cells_written_by op)) (list_any (is_cell cell) (cells_written ops))
    (list_any (is_cell cell) (cells_of_op op)) (list_any (is_cell cell) (cells_of ops)) (names_by cell op) (names ops cell)
    (sym (list_any-append (is_cell cell) (cells_written_by op) (cells_written ops)) ∙ is)

-- what only reads a cell names it, and does not write it
pub reads_named : (ops : List Op) (cell : Cell) → only_reads ops cell ≡ true → list_any (is_cell cell) (cells_of ops) ≡ true
reads_named ops cell is = let parts = and_parts (list_any (is_cell cell) (cells_of ops)) (not (writes ops cell)) is in parts.0

and_not : (a b : Bool) → b ≡ true → (a && not b) ≡ false
and_not true true is = refl
and_not false b is = refl
and_not true false is = cc

-- one message counts for no more than its cost where it names the cell
once : (cell : Cell) (message : Message) → written_cost cell message + read_cost cell message ≤ cost_on cell message
once cell message =
    let ops = message.ops in
    let named : Bool = list_any (is_cell cell) (cells_of ops) in
    elim (cases_Bool (writes ops cell)) [
      | inl held ↦
          let write = cond-true (writes ops cell) message.cost 0 held in
          let read = cond-false (only_reads ops cell) message.cost 0 (and_not named (writes ops cell) held) in
          omega (arith, write, read, cond-true named message.cost 0 (names ops cell held))
      | inr failed ↦
          let write = cond-false (writes ops cell) message.cost 0 failed in
          elim (cases_Bool (only_reads ops cell)) [
            | inl held ↦ omega (arith, write, cond-true (only_reads ops cell) message.cost 0 held, cond-true named message.cost 0 (reads_named ops cell held))
            | inr neither ↦ omega (arith, write, cond-false (only_reads ops cell) message.cost 0 neither)
          ]
    ]

-- so all messages need no more of a cell than they use it
pub shared_within : (messages : List Message) (cell : Cell) → ticks_shared messages cell ≤ ticks_on messages cell
shared_within [] cell = omega arith
shared_within (m ∷ messages) cell =
    let used = sum_by-cons (cost_on cell) m messages in
    let written = sum_by-cons (written_cost cell) m messages in
    omega (arith, once cell m, shared_within messages cell, used, written)

-- Operations on rows that hold cells, and on parcels.
use Rattle.std.proofs.Common.{◌≡◌, ℕ, ◌+◌, ◌%◌, ◌^◌, ◌<◌, ◌≤◌, List, [], ◌∷◌, ◌++◌, length, map, All, get_or, take, refl, sym, ◌∙◌, ap, subst, arith, ⊎_elim}
use Rattle.std.proofs.lemmas.Bool.{cases_lt}
use Rattle.std.proofs.lemmas.List.{take_more, get_or-map, get_or_past, length-map}
use Rattle.waff_model.specs.Cells.{cells_of_op, cells_of}
use Rattle.waff_model.specs.Layout.{Space}
use Rattle.waff_model.specs.declared.cell.Cell.{Cell}
use Rattle.waff_model.specs.declared.op.Op.{Op}
use Rattle.waff_model.specs.declared.op.Op.TheVariants.{Set, Add, Copy, Swap, Read}
use Rattle.waff_cells.specs.Meaning.{Cells, with_number, effect, meaning}
use Rattle.waff_cells.specs.Held.{Address, AreWithin, number_at, IsWithin}
use Rattle.waff_cells.proofs.HeldCells.{AreApart, Hold, HoldAfter}
use Rattle.waff_cells.specs.Parcel.{AreParcels, HaveParcelSizes, IsOwned, lies_at}
use Rattle.waff_cells.specs.RowEffects.{with_number_at, row_effect, row_meaning}
use Rattle.waff_model.proofs.OpCells.{all_left, all_right}
use Rattle.waff_cells.proofs.Writes.{inside, written_sizes, written_holds}
use Rattle.waff_cells.proofs.Holdings.{parcels_apart, parcel_address, parcel_sizes, hold_parcels, part_parcels}

-- what operations do to rows, and one more
row_meaning-append : (at : Cell → Address) (ops more : List Op) (rows : List (List ℕ)) → row_meaning at (ops ++ more) rows ≡ row_meaning at more (row_meaning at ops rows)
row_meaning-append at [] more rows = refl
row_meaning-append at (op ∷ ops) more rows = row_meaning-append at ops more (row_effect at op rows)

pub run_more : (at : Cell → Address) (ops : List Op) (i : ℕ) (d : Op) (start before after : List (List ℕ)) → i < length ops
    → before ≡ row_meaning at (take i ops) start → after ≡ row_effect at (get_or ops i d) before → after ≡ row_meaning at (take (i + 1) ops) start
run_more at ops i d start before after within is next =
    next ∙ ap (λ rows. row_effect at (get_or ops i d) rows) is
    ∙ sym (ap (λ xs. row_meaning at xs start) (take_more ops i d within) ∙ row_meaning-append at (take i ops) (get_or ops i d ∷ []) start)

-- an operation whose cells are those of the rows does to them what it does to the cells
pub record Keeps (Has : Cell → Type 0) (at : Cell → Address) (rows after : List (List ℕ)) (step : Cells → Cells) : Type 0 where
  pub sizes : map length after ≡ map length rows
  pub holds : HoldAfter Has at rows after step

module _ (Has : Cell → Type 0) (at : Cell → Address) (apart : AreApart Has at) where
  write_keeps : (rows : List (List ℕ)) (cell : Cell) (n : ℕ) → Has cell → IsWithin (map length rows) (at cell)
      → Keeps Has at rows (with_number_at rows (at cell) n) (λ cells. with_number cells cell n)
  write_keeps rows cell n has within = let there = inside rows (at cell) within in record {
    sizes = written_sizes rows (at cell) n there;
    holds = λ cells hold. written_holds Has at apart rows cell n has there cells hold;
  }

  pub op_keeps : (op : Op) (rows : List (List ℕ)) → All Has (cells_of_op op) → AreWithin (map length rows) at (cells_of_op op)
      → Keeps Has at rows (row_effect at op rows) (effect op)
  op_keeps (Set cell value) rows has within = write_keeps rows cell value (has 0 cell (omega arith)) (within 0 cell (omega arith))
  op_keeps (Add cell value) rows has within =
      let is : Has cell = has 0 cell (omega arith) in
      let n = (number_at rows (at cell) + value) % 2 ^ 64 in
      let done = write_keeps rows cell n is (within 0 cell (omega arith)) in
      record {
        sizes = done.sizes;
        holds = λ cells hold.
            subst (λ k. Hold Has at (with_number_at rows (at cell) n) (with_number cells cell ((k + value) % 2 ^ 64))) (hold cell is) (done.holds cells hold);
      }
  op_keeps (Copy cell source) rows has within =
      let n = number_at rows (at source) in
      let done = write_keeps rows cell n (has 0 cell (omega arith)) (within 0 cell (omega arith)) in
      record {
        sizes = done.sizes;
        holds = λ cells hold.
            subst (λ k. Hold Has at (with_number_at rows (at cell) n) (with_number cells cell k)) (hold source (has 1 cell (omega arith))) (done.holds cells hold);
      }
  op_keeps (Swap cell other) rows has within =
      let one = number_at rows (at cell) in
      let two = number_at rows (at other) in
      let first = write_keeps rows cell two (has 0 cell (omega arith)) (within 0 cell (omega arith)) in
      let rest : IsWithin (map length (with_number_at rows (at cell) two)) (at other)
      = subst (λ sizes. IsWithin sizes (at other)) (sym first.sizes) (within 1 cell (omega arith)) in
      let second = write_keeps (with_number_at rows (at cell) two) other one (has 1 cell (omega arith)) rest in
      let after = with_number_at (with_number_at rows (at cell) two) (at other) one in
      record {
        sizes = second.sizes ∙ first.sizes;
        holds = λ cells hold.
            subst (λ k. Hold Has at after (with_number (with_number cells cell (cells other)) other k)) (hold cell (has 0 cell (omega arith)))
            (subst (λ k. Hold Has at after (with_number (with_number cells cell k) other one)) (hold other (has 1 cell (omega arith)))
            (second.holds (with_number cells cell two) (first.holds cells hold)));
      }
  op_keeps (Read cell) rows has within = record { sizes = refl; holds = λ cells hold. hold }

  pub ops_keep : (ops : List Op) (rows : List (List ℕ)) → All Has (cells_of ops) → AreWithin (map length rows) at (cells_of ops)
      → Keeps Has at rows (row_meaning at ops rows) (meaning ops)
  ops_keep [] rows has within = record { sizes = refl; holds = λ cells hold. hold }
  ops_keep (op ∷ ops) rows has within =
      let In : Cell → Type 0 = λ cell. IsWithin (map length rows) (at cell) in
      let first = op_keeps op rows (all_left Has (cells_of_op op) (cells_of ops) has) (all_left In (cells_of_op op) (cells_of ops) within) in
      let next = row_effect at op rows in
      let rest : AreWithin (map length next) at (cells_of ops)
      = subst (λ sizes. AreWithin sizes at (cells_of ops)) (sym first.sizes) (all_right In (cells_of_op op) (cells_of ops) within) in
      let more = ops_keep ops next (all_right Has (cells_of_op op) (cells_of ops) has) rest in
      record {
        sizes = more.sizes ∙ first.sizes;
        holds = λ cells hold. more.holds (effect op cells) (first.holds cells hold);
      }

-- rows of the same sizes are as long, row by row
row_lengths : (rows after : List (List ℕ)) → map length after ≡ map length rows → (a : ℕ) → length (get_or after a []) ≡ length (get_or rows a [])
row_lengths rows after same a =
    let count : length after ≡ length rows = sym (length-map after length) ∙ ap length same ∙ length-map rows length in
    ⊎_elim {C = length (get_or after a []) ≡ length (get_or rows a [])}
    (λ (short : a < length rows).
    sym (get_or-map length after a [] 0 (omega (arith, short, count))) ∙ ap (λ ns. get_or ns a 0) same ∙ get_or-map length rows a [] 0 short)
    (λ (past : length rows ≤ a).
    ap length (get_or_past after a [] (omega (arith, past, count))) ∙ sym (ap length (get_or_past rows a [] past)))
    (cases_lt a (length rows))

module _ (spaces : List Space) (owners : List ℕ) (ops : List Op) (owned : All (IsOwned spaces owners) (cells_of ops)) where
  -- operations leave of parcels what they leave of the cells
  pub parcels_run : (cells : Cells) (rows : List (List ℕ)) → AreParcels spaces owners cells rows
      → AreParcels spaces owners (meaning ops cells) (row_meaning (lies_at spaces) ops rows)
  parcels_run cells rows parcels =
      let at = lies_at spaces in
      let sized = parcel_sizes spaces owners cells rows parcels in
      let within : AreWithin (map length rows) at (cells_of ops) = λ k d there. parcel_address spaces owners rows sized _ (owned k d there) in
      let done = ops_keep (IsOwned spaces owners) at (parcels_apart spaces owners) ops rows owned within in
      let after = row_meaning at ops rows in
      let kept : HaveParcelSizes spaces owners after = λ a has. row_lengths rows after done.sizes a ∙ sized a has in
      part_parcels spaces owners (meaning ops cells) after kept (done.holds cells (hold_parcels spaces owners cells rows parcels))

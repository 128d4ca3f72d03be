-- The numbers of locks: each cell with a lock has one.
use Rattle.std.proofs.Common.{◌≡◌, ℕ, ◌+◌, ◌*◌, ◌<◌, ◌≤◌, inl, inr, List, [], ◌∷◌, length, get_or, true, false, Some, slice_get, Contains, arith, refl, sym, ◌∙◌, ap, subst}
use Rattle.std.specs.List.Sorted.{IsNonDecreasingBy, IsPartitionPoint, IsStrictlySortedBy}
use Rattle.std.specs.Ordering.{is_lt, ordering_index, ordering_reverse}
use Rattle.std.specs.declared.cmp.Ordering.{Ordering}
use Rattle.std.specs.declared.cmp.Ordering.TheVariants.{Less, Equal, Greater}
use Rattle.std.proofs.lemmas.Bool.{cases_lt, false_from_ne_true}
use Rattle.std.proofs.lemmas.List.{length-append}
use Rattle.std.proofs.lemmas.List.Sorted.{searchable_from_sorted}
use Rattle.std.proofs.lemmas.List.Sums.{position_or_len_is, length-filter, count_by-le-length, sum_by-cons}
use Rattle.std.proofs.lemmas.Map.Keys.{Less-from_sorted}
use Rattle.std.proofs.lemmas.Option.{get_or_from_slice_get, slice_get-get_or, slice_get_within}
use Rattle.waff_model.specs.Cells.{cells_of, cells_of_op}
use Rattle.waff_model.specs.Layout.{Space, IsLocked, are_locked, locking_of}
use Rattle.waff_model.specs.Messages.{ops_in}
use Rattle.waff_model.specs.declared.cell.Cell.{Cell}
use Rattle.waff_model.specs.declared.locking.Locking.{Locking}
use Rattle.waff_model.specs.declared.locking.Locking.TheVariants.{Unlocked, Exclusive, Shared}
use Rattle.waff_model.specs.declared.message.Message.{Message}
use Rattle.waff_model.specs.declared.op.Op.{Op}
use Rattle.waff_model.specs.declared.op.Op.TheVariants.{Set, Add, Copy, Swap, Read}
use Rattle.waff_assign.specs.Footprint.{cell_cmp, cell_eq}
use Rattle.waff_assign.specs.Lowest.{IsInFootprint}
use Rattle.waff_assign.specs.Uses.{all_locked_cells, is_locked, locked_cells, number_in}
use Rattle.waff_assign.proofs.CellOrder.{cell_cmp_total, cell_eq_equiv, cell_eq_same, cell_eq_ties}
use Rattle.waff_assign.proofs.Elements.{in_filter, in_flat_map, filter_has, flat_map_has}

-- a cell ties with itself alone
tie_by : (o : Ordering) → o ≡ ordering_reverse o → o ≡ Equal
tie_by Less same = absurd (cc)
tie_by Equal same = refl
tie_by Greater same = absurd (cc)

cell_cmp_self : (cell : Cell) → cell_cmp cell cell ≡ Equal
cell_cmp_self cell = tie_by (cell_cmp cell cell) (cell_cmp_total.antisymm cell cell)

pub same_from_tie : (one other : Cell) → cell_cmp one other ≡ Equal → one ≡ other
same_from_tie one other tie = cell_eq_same one other (rw tie at (cell_eq_ties one other))

after_less : (one other : Cell) → cell_cmp one other ≡ Less → is_lt (cell_cmp other one) ≡ false
after_less one other less = rw (cell_cmp_total.antisymm other one, less) refl

module _ (locks : List Cell) (rising : IsStrictlySortedBy cell_cmp locks) where
  -- different places have different cells
  different : (i j : ℕ) (d : Cell) → i < j → j < length locks → get_or locks i d ≡ get_or locks j d → ⊥
  different i j d before within same =
      let less : cell_cmp (get_or locks i d) (get_or locks j d) ≡ Less = Less-from_sorted cell_cmp locks i j d rising before within in
      let tie : cell_cmp (get_or locks i d) (get_or locks j d) ≡ Equal = ap (λ c. cell_cmp (get_or locks i d) c) (sym same) ∙ cell_cmp_self (get_or locks i d) in
      absurd (cc)

  -- a lock has one number
  pub number_is : (i : ℕ) (cell : Cell) → slice_get locks i ≡ Some cell → number_in locks cell ≡ i
  number_is i cell is =
      let within = slice_get_within locks i cell is in
      let here : get_or locks i cell ≡ cell = get_or_from_slice_get locks i cell cell is in
      position_or_len_is (λ lock. cell_eq lock cell) locks i cell (omega (arith, within))
      (λ k before. false_from_ne_true (cell_eq (get_or locks k cell) cell)
      (λ same. different k i cell before within (cell_eq_same (get_or locks k cell) cell same ∙ sym here)))
      (λ inside. ap (λ c. cell_eq c cell) here ∙ cell_eq_equiv.refl cell)

  pub numbered : (cell : Cell) → Contains locks cell → slice_get locks (number_in locks cell) ≡ Some cell
  numbered cell (k, within, is) =
      let at : slice_get locks k ≡ Some cell = slice_get-get_or locks k cell within ∙ ap Some is in
      subst (λ i. slice_get locks i ≡ Some cell) (sym (number_is k cell at)) at

  -- a search finds each
  pub not_missing : (cell : Cell) (i : ℕ) → Contains locks cell
      → (IsNonDecreasingBy (λ y. ordering_index (cell_cmp y cell)) locks
      → IsPartitionPoint (λ y. cell_cmp y cell ≡ Less) (λ y. cell_cmp y cell ≡ Greater) locks i)
      → ⊥
  not_missing cell i (k, within, is) found =
      let tie : cell_cmp (get_or locks k cell) cell ≡ Equal = ap (λ c. cell_cmp c cell) is ∙ cell_cmp_self cell in
      let parted = found
      (searchable_from_sorted cell_cmp_total (λ (y : Cell). y) locks cell
      (λ n d low high. after_less (get_or locks n d) (get_or locks (n + 1) d) (Less-from_sorted cell_cmp locks n (n + 1) d rising (omega arith) high))) in
      elim (cases_lt k i) [
        | inl before ↦
            let less : cell_cmp (get_or locks k cell) cell ≡ Less = parted.0 k cell (omega arith) before in
            absurd (cc)
        | inr from ↦
            let greater : cell_cmp (get_or locks k cell) cell ≡ Greater = parted.1 k cell from within in
            absurd (cc)
      ]

-- what it means to have a lock
pub locked_true : (spaces : List Space) (cell : Cell) → IsLocked spaces cell → is_locked spaces cell ≡ true
locked_true spaces cell locked = by (locking_of spaces cell) locked
  where
    by : (locking : Locking) → (locking ≡ Unlocked → ⊥) → are_locked locking ≡ true
    by Unlocked has = absurd (has refl)
    by Exclusive has = refl
    by Shared has = refl

pub true_locked : (spaces : List Space) (cell : Cell) → is_locked spaces cell ≡ true → IsLocked spaces cell
true_locked spaces cell is none = by (locking_of spaces cell) is none
  where
    by : (locking : Locking) → are_locked locking ≡ true → locking ≡ Unlocked → ⊥
    by Unlocked has same = absurd (cc)
    by Exclusive has same = absurd (cc)
    by Shared has same = absurd (cc)

-- the cells with locks that messages name
pub locked_from : (spaces : List Space) (messages : List Message) (cell : Cell) → Contains (all_locked_cells spaces messages) cell
    → IsLocked spaces cell × ((message : Message) × Contains messages message × IsInFootprint message.ops cell)
locked_from spaces messages cell has =
    let (message, among, there) = in_flat_map (λ (m : Message). locked_cells spaces (cells_of m.ops)) messages cell has in
    let named = in_filter (is_locked spaces) (cells_of message.ops) cell there in
    (true_locked spaces cell named.1, (message, among, named.0))

pub locked_has : (spaces : List Space) (messages : List Message) (message : Message) (cell : Cell) → IsLocked spaces cell → Contains messages message
    → IsInFootprint message.ops cell → Contains (all_locked_cells spaces messages) cell
locked_has spaces messages message cell locked among named =
    flat_map_has (λ (m : Message). locked_cells spaces (cells_of m.ops)) messages message cell among
    (filter_has (is_locked spaces) (cells_of message.ops) cell named (locked_true spaces cell locked))

-- there are no more than operations may name
cells_of_op_few : (op : Op) → length (cells_of_op op) ≤ 2
cells_of_op_few (Set cell value) = omega arith
cells_of_op_few (Add cell value) = omega arith
cells_of_op_few (Copy cell source) = omega arith
cells_of_op_few (Swap cell other) = omega arith
cells_of_op_few (Read cell) = omega arith

cells_of_few : (ops : List Op) → length (cells_of ops) ≤ 2 * length ops
cells_of_few [] = omega arith
cells_of_few (op ∷ ops) = omega (arith, length-append (cells_of_op op) (cells_of ops), cells_of_op_few op, cells_of_few ops)

pub locked_few : (spaces : List Space) (messages : List Message) → length (all_locked_cells spaces messages) ≤ 2 * ops_in messages
locked_few spaces [] = omega arith
locked_few spaces (message ∷ messages) =
    let cells = cells_of message.ops in
    let ops : ops_in (message ∷ messages) ≡ length message.ops + ops_in messages = sum_by-cons (λ (m : Message). length m.ops) message messages in
    let all : length (all_locked_cells spaces (message ∷ messages)) ≡ length (locked_cells spaces cells) + length (all_locked_cells spaces messages)
    = length-append (locked_cells spaces cells) (all_locked_cells spaces messages) in
    omega (arith, length-filter (is_locked spaces) cells, count_by-le-length (is_locked spaces) cells, cells_of_few message.ops, locked_few spaces messages)

-- What messages need of cells, some of which those that only read them share.
use Rattle.std.proofs.Common.{◌≡◌, inl, inr, ℕ, ◌+◌, ◌≤◌, ◌&&◌, ◌||◌, not, Bool, true, false, cond, List, [], ◌∷◌, ◌++◌, Option, Some, None, refl, sym, ◌∙◌, ap, ap₂, subst, arith}
use Rattle.std.specs.List.{list_any}
use Rattle.std.proofs.lemmas.Bool.{cases_Bool}
use Rattle.std.proofs.lemmas.List.Folds.{list_any-append}
use Rattle.std.proofs.lemmas.List.Sums.{sum_by-cons}
use Rattle.waff_model.specs.Cells.{cells_of, cells_of_op, cells_written, cells_written_by}
use Rattle.waff_model.specs.Layout.{Space, has_locks, locking_of}
use Rattle.waff_model.specs.declared.cell.Cell.{Cell}
use Rattle.waff_model.specs.declared.locking.Locking.{Locking}
use Rattle.waff_model.specs.declared.locking.Locking.TheVariants.{Exclusive, Shared, Unlocked}
use Rattle.waff_model.specs.declared.message.Message.{Message}
use Rattle.waff_model.specs.declared.op.Op.{Op}
use Rattle.waff_model.specs.declared.op.Op.TheVariants.{Set, Add, Copy, Swap, Read}
use Rattle.waff_model.proofs.Unlocking.{none_is_locked}
use Rattle.waff_assign.proofs.CellOrder.{cell_eq_same}
use Rattle.waff_limits.specs.Data.{IsMost, IsMostOf, cost_on, is_cell, ticks_on}
use Rattle.waff_limits.specs.Laws.{WritesBoundData}
use Rattle.waff_limits.specs.Locks.{ticks_needed, ticks_under}
use Rattle.waff_limits.specs.Writes.{alone_cost, are_shared, cells_alone, cells_alone_by, may_share, needs_alone, only_reads, only_shares, read_cost, sharing_cost, ticks_alone, ticks_by, ticks_read, ticks_shared, ticks_sharing, ticks_written, unless_shared, writes, written_cost}
use Rattle.waff_limits.specs.declared.data.CellUse.{CellUse}
use Rattle.waff_limits.proofs.Sharing.{shared_within}

-- what is so of equal ticks
same_most : (used other : Cell → ℕ) → ((cell : Cell) → used cell ≡ other cell) → (found : CellUse) → IsMost used found → IsMost other found
same_most used other same found most = record {
  some = most.some;
  ticks = sym (same found.cell) ∙ most.ticks;
  most = λ cell. subst (λ n. n ≤ found.ticks) (same cell) (most.most cell);
  first = λ cell is. most.first cell (same cell ∙ is);
}

pub same_most_of : (used other : Cell → ℕ) → ((cell : Cell) → used cell ≡ other cell) → (found : Option CellUse) → IsMostOf used found → IsMostOf other found
same_most_of used other same None none = λ cell. sym (same cell) ∙ none cell
same_most_of used other same (Some found) most = same_most used other same found most

module _ (sharing : Option (List Space)) (cell : Cell) where
  by_test : (b : Bool) (x : Cell) → may_share sharing x ≡ b → unless_shared sharing x ≡ cond b [] (x ∷ [])
  by_test b x is = ap (λ t. cond t [] (x ∷ [])) is

  -- a cell that is shared
  module _ (shares : may_share sharing cell ≡ true) where
    not_alone : (x : Cell) → list_any (is_cell cell) (unless_shared sharing x) ≡ false
    not_alone x = elim (cases_Bool (is_cell cell x)) [
      | inl same ↦
          let this : cell ≡ x = cell_eq_same cell x same in
          ap (list_any (is_cell cell)) (by_test true x (subst (λ y. may_share sharing y ≡ true) this shares))
      | inr other ↦ elim (cases_Bool (may_share sharing x)) [
        | inl shared ↦ ap (list_any (is_cell cell)) (by_test true x shared)
        | inr alone ↦ ap (list_any (is_cell cell)) (by_test false x alone) ∙ ap (λ b. b || false) other
      ]
    ]

    written_by_op : (op : Op) → list_any (is_cell cell) (cells_alone_by sharing op) ≡ list_any (is_cell cell) (cells_written_by op)
    written_by_op (Set x value) = refl
    written_by_op (Add x value) = refl
    written_by_op (Copy x source) = ap (λ b. is_cell cell x || b) (not_alone source)
    written_by_op (Swap x other) = refl
    written_by_op (Read x) = not_alone x

    alone_is_written : (ops : List Op) → needs_alone sharing ops cell ≡ writes ops cell
    alone_is_written [] = refl
    alone_is_written (op ∷ ops) =
        list_any-append (is_cell cell) (cells_alone_by sharing op) (cells_alone sharing ops)
        ∙ ap₂ (λ a b. a || b) (written_by_op op) (alone_is_written ops)
        ∙ sym (list_any-append (is_cell cell) (cells_written_by op) (cells_written ops))

    written_sum : (messages : List Message) → ticks_alone sharing messages cell ≡ ticks_written messages cell
    written_sum [] = refl
    written_sum (m ∷ messages) =
        omega (
          arith,
          written_sum messages,
          sum_by-cons (alone_cost sharing cell) m messages,
          sum_by-cons (written_cost cell) m messages,
          ap (λ b. cond {A = ℕ} b m.cost 0) (alone_is_written m.ops),
        )

    read_most : (messages : List Message) → ticks_sharing sharing messages cell ≡ ticks_read messages cell
    read_most [] = refl
    read_most (m ∷ messages) =
        omega (
          arith,
          read_most messages,
          ap (λ b. cond {A = ℕ} (list_any (is_cell cell) (cells_of m.ops) && not b) m.cost 0) (alone_is_written m.ops),
        )

    pub ticks_are_shared : (messages : List Message) → ticks_by sharing messages cell ≡ ticks_shared messages cell
    ticks_are_shared messages = omega (arith, written_sum messages, read_most messages)

  -- one that is not
  module _ (alone : may_share sharing cell ≡ false) where
    is_alone : (x : Cell) → list_any (is_cell cell) (unless_shared sharing x) ≡ list_any (is_cell cell) (x ∷ [])
    is_alone x = elim (cases_Bool (is_cell cell x)) [
      | inl same ↦
          let this : cell ≡ x = cell_eq_same cell x same in
          ap (list_any (is_cell cell)) (by_test false x (subst (λ y. may_share sharing y ≡ false) this alone))
      | inr other ↦ elim (cases_Bool (may_share sharing x)) [
        | inl shared ↦ ap (list_any (is_cell cell)) (by_test true x shared) ∙ sym (ap (λ b. b || false) other)
        | inr not_shared ↦ ap (list_any (is_cell cell)) (by_test false x not_shared)
      ]
    ]

    named_by_op : (op : Op) → list_any (is_cell cell) (cells_alone_by sharing op) ≡ list_any (is_cell cell) (cells_of_op op)
    named_by_op (Set x value) = refl
    named_by_op (Add x value) = refl
    named_by_op (Copy x source) = ap (λ b. is_cell cell x || b) (is_alone source)
    named_by_op (Swap x other) = refl
    named_by_op (Read x) = is_alone x

    alone_is_named : (ops : List Op) → needs_alone sharing ops cell ≡ list_any (is_cell cell) (cells_of ops)
    alone_is_named [] = refl
    alone_is_named (op ∷ ops) =
        list_any-append (is_cell cell) (cells_alone_by sharing op) (cells_alone sharing ops)
        ∙ ap₂ (λ a b. a || b) (named_by_op op) (alone_is_named ops)
        ∙ sym (list_any-append (is_cell cell) (cells_of_op op) (cells_of ops))

    and_not : (b : Bool) → (b && not b) ≡ false
    and_not true = refl
    and_not false = refl

    used_sum : (messages : List Message) → ticks_alone sharing messages cell ≡ ticks_on messages cell
    used_sum [] = refl
    used_sum (m ∷ messages) =
        omega (
          arith,
          used_sum messages,
          sum_by-cons (alone_cost sharing cell) m messages,
          sum_by-cons (cost_on cell) m messages,
          ap (λ b. cond {A = ℕ} b m.cost 0) (alone_is_named m.ops),
        )

    none_shared : (messages : List Message) → ticks_sharing sharing messages cell ≡ 0
    none_shared [] = refl
    none_shared (m ∷ messages) =
        let named : Bool = list_any (is_cell cell) (cells_of m.ops) in
        let none : sharing_cost sharing cell m ≡ 0
        = ap (λ b. cond {A = ℕ} (named && not b) m.cost 0) (alone_is_named m.ops) ∙ ap (λ b. cond {A = ℕ} b m.cost 0) (and_not named) in
        omega (arith, none_shared messages, none)

    pub ticks_are_used : (messages : List Message) → ticks_by sharing messages cell ≡ ticks_on messages cell
    ticks_are_used messages = omega (arith, used_sum messages, none_shared messages)

  -- no more than messages use the cell
  pub ticks_within : (messages : List Message) → ticks_by sharing messages cell ≤ ticks_on messages cell
  ticks_within messages = elim (cases_Bool (may_share sharing cell)) [
    | inl shares ↦ omega (arith, ticks_are_shared shares messages, shared_within messages cell)
    | inr alone ↦ omega (arith, ticks_are_used alone messages)
  ]

-- every cell is shared
pub every_shared : (messages : List Message) (cell : Cell) → ticks_by None messages cell ≡ ticks_shared messages cell
every_shared messages cell = ticks_are_shared None cell refl messages

-- those of spaces with shared locks are
pub by_locks : (spaces : List Space) (messages : List Message) (cell : Cell) → ticks_by (Some spaces) messages cell ≡ ticks_needed spaces messages cell
by_locks spaces messages cell = by (locking_of spaces cell) refl
  where
    by : (locking : Locking) → locking_of spaces cell ≡ locking → ticks_by (Some spaces) messages cell ≡ ticks_needed spaces messages cell
    by Unlocked is = ticks_are_used (Some spaces) cell (ap are_shared is) messages ∙ sym (ap (λ l. ticks_under l messages cell) is)
    by Exclusive is = ticks_are_used (Some spaces) cell (ap are_shared is) messages ∙ sym (ap (λ l. ticks_under l messages cell) is)
    by Shared is = ticks_are_shared (Some spaces) cell (ap are_shared is) messages ∙ sym (ap (λ l. ticks_under l messages cell) is)

pub needed_within : (spaces : List Space) (messages : List Message) (cell : Cell) → ticks_needed spaces messages cell ≤ ticks_on messages cell
needed_within spaces messages cell = subst (λ n. n ≤ ticks_on messages cell) (by_locks spaces messages cell) (ticks_within (Some spaces) cell messages)

-- `writes` is no more
pub shared_needed : (spaces : List Space) (messages : List Message) (cell : Cell) → ticks_shared messages cell ≤ ticks_needed spaces messages cell
shared_needed spaces messages cell = by (locking_of spaces cell) refl
  where
    by : (locking : Locking) → locking_of spaces cell ≡ locking → ticks_shared messages cell ≤ ticks_needed spaces messages cell
    by Unlocked is = subst (λ l. ticks_shared messages cell ≤ ticks_under l messages cell) (sym is) (shared_within messages cell)
    by Exclusive is = subst (λ l. ticks_shared messages cell ≤ ticks_under l messages cell) (sym is) (shared_within messages cell)
    by Shared is = subst (λ l. ticks_shared messages cell ≤ ticks_under l messages cell) (sym is) (omega arith)

-- without locks all cells are used alone
pub needed_without_locks : (spaces : List Space) (messages : List Message) → has_locks spaces ≡ false → (cell : Cell) → ticks_on messages cell ≡ ticks_needed spaces messages cell
needed_without_locks spaces messages none cell = by (locking_of spaces cell) refl
  where
    by : (locking : Locking) → locking_of spaces cell ≡ locking → ticks_on messages cell ≡ ticks_needed spaces messages cell
    by Unlocked is = sym (ap (λ l. ticks_under l messages cell) is)
    by Exclusive is = absurd (none_is_locked spaces none cell (λ unlocked. let wrong : Exclusive ≡ Unlocked = sym is ∙ unlocked in cc))
    by Shared is = absurd (none_is_locked spaces none cell (λ unlocked. let wrong : Shared ≡ Unlocked = sym is ∙ unlocked in cc))

pub writes_below : (spaces : List Space) (messages : List Message) → WritesBoundData spaces messages
writes_below spaces messages None used most other = omega arith
writes_below spaces messages (Some one) None most none =
    omega (arith, most.ticks, shared_needed spaces messages one.cell, none one.cell, most.some)
writes_below spaces messages (Some one) (Some two) most other =
    omega (arith, most.ticks, shared_needed spaces messages one.cell, other.most one.cell)

-- where no more cells are shared, messages need no less of each
pub needed_more : (spaces others : List Space) (messages : List Message) (cell : Cell) → (locking_of others cell ≡ Shared → locking_of spaces cell ≡ Shared)
    → ticks_needed spaces messages cell ≤ ticks_needed others messages cell
needed_more spaces others messages cell shares = by (locking_of spaces cell) (locking_of others cell) refl refl
  where
    by : (one other : Locking) → locking_of spaces cell ≡ one → locking_of others cell ≡ other → ticks_needed spaces messages cell ≤ ticks_needed others messages cell
    by Shared other is also = subst (λ l. ticks_under l messages cell ≤ ticks_needed others messages cell) (sym is) (shared_needed others messages cell)
    by Unlocked Shared is also = absurd (let wrong : Unlocked ≡ Shared = sym is ∙ shares also in cc)
    by Exclusive Shared is also = absurd (let wrong : Exclusive ≡ Shared = sym is ∙ shares also in cc)
    by Unlocked Unlocked is also = omega (arith, ap (λ l. ticks_under l messages cell) is, ap (λ l. ticks_under l messages cell) also)
    by Unlocked Exclusive is also = omega (arith, ap (λ l. ticks_under l messages cell) is, ap (λ l. ticks_under l messages cell) also)
    by Exclusive Unlocked is also = omega (arith, ap (λ l. ticks_under l messages cell) is, ap (λ l. ticks_under l messages cell) also)
    by Exclusive Exclusive is also = omega (arith, ap (λ l. ticks_under l messages cell) is, ap (λ l. ticks_under l messages cell) also)

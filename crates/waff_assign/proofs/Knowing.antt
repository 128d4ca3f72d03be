-- What messages hold by an assignment is of the tree, and without locks they use none.
use Rattle.std.proofs.Common.{◌≡◌, ◌⊎◌, ℕ, zero, suc, ◌+◌, ◌-◌, ◌/◌, ◌%◌, ◌<◌, ◌≤◌, List, [], ◌∷◌, length, get_or, All, Contains, Bool, true, false, Option, Some, None, option_map, unwrap_or, slice_get, arith, refl, sym, ap, subst, inl, inr}
use Rattle.std.specs.Prelude.{◌||◌, option_and_then}
use Rattle.std.specs.List.{list_any}
use Rattle.std.proofs.lemmas.Bool.{cases_lt, or_cases}
use Rattle.std.proofs.lemmas.List.{get_or_default}
use Rattle.std.proofs.lemmas.List.Elements.{All-contains}
use Rattle.std.proofs.lemmas.Map.Views.{Contains-from_any, list_any-from_Contains}
use Rattle.std.proofs.lemmas.Option.{slice_get_cases, slice_get_past, slice_get_within, get_or_from_slice_get}
use Rattle.waff_model.specs.Cells.{cells_of, cells_written}
use Rattle.waff_model.specs.Layout.{Hierarchy, Space, IsCell, IsLayout, IsLocked, IsSpace, has_locks, locking_of, owner_at, owner_of}
use Rattle.waff_model.specs.Messages.{Arrivals, IsMessage, IsTrace, sizes_of}
use Rattle.waff_model.specs.Tree.{AtOrAbove, Leads, Node, parent_of}
use Rattle.waff_model.specs.declared.cell.Cell.{Cell}
use Rattle.waff_model.specs.declared.locking.Locking.{Locking}
use Rattle.waff_model.specs.declared.locking.Locking.TheVariants.{Unlocked, Exclusive, Shared}
use Rattle.waff_model.specs.declared.message.Message.{Message}
use Rattle.waff_model.specs.declared.op.Op.{Op}
use Rattle.waff_model.proofs.Unlocking.{none_is_locked}
use Rattle.waff_assign.specs.Footprint.{cell_eq}
use Rattle.waff_assign.specs.Held.{AreKnown, AreUnlocked, Held, IsHeldWithin, nothing}
use Rattle.waff_assign.specs.Lowest.{IsAffinityOf, IsAssignment, IsHeldBy, IsLowest, IsUnlockedAmong, ListsLocks, ListsUses}
use Rattle.waff_assign.specs.Order.{affinity_of}
use Rattle.waff_assign.specs.Uses.{number_in}
use Rattle.waff_assign.specs.declared.held.LockUse.{LockUse}
use Rattle.waff_assign.proofs.Assignments.{cells_of_layout, some_cell}
use Rattle.waff_assign.proofs.CellOrder.{cell_eq_equiv, cell_eq_same}
use Rattle.waff_assign.proofs.Climbs.{root_above}
use Rattle.waff_assign.proofs.Elements.{first_in}
use Rattle.waff_assign.proofs.Numbering.{numbered}

-- the owner of a cell is an affinity
pub owner_known : (layout : Hierarchy) → IsLayout layout → (cell : Cell) → IsCell layout.spaces cell → owner_of layout.spaces cell < length layout.tree
owner_known layout is cell small = at (slice_get layout.spaces cell.space) refl small
  where
    at : (o : Option Space) → slice_get layout.spaces cell.space ≡ o → cell.index < unwrap_or (option_map (λ (s : Space). s.size) o) 0
        → unwrap_or (option_map (λ (s : Space). owner_at s cell.index) o) 0 < length layout.tree
    at None is_none none = absurd (omega (arith, none))
    at (Some space) there inside =
        let has : Contains layout.spaces space = (cell.space, slice_get_within layout.spaces cell.space space there, get_or_from_slice_get layout.spaces cell.space space space there) in
        let here : IsSpace layout.format layout.tree space = All-contains (IsSpace layout.format layout.tree) layout.spaces space is.each has in
        let place = (cell.index / space.unit) % length space.to in
        let within : place < length space.to = omega (arith, here.owned) in
        here.affinities place 0 within

-- what has a parent is an affinity
child_known : (tree : List Node) (a p : ℕ) → parent_of tree a ≡ Some p → a < length tree
child_known tree a p has = elim (cases_lt a (length tree)) [
  | inl within ↦ within
  | inr past ↦
      let none : parent_of tree a ≡ None = ap (λ o. option_and_then (λ (node : Node). node.parent) o) (slice_get_past tree a past) in
      absurd (cc)
]

-- what is below an affinity is one
below_known : (tree : List Node) (n a b : ℕ) → a < length tree → Leads tree n a b → b < length tree
below_known tree zero a b within leads = subst (λ x. x < length tree) leads within
below_known tree (suc n) a b within leads = child_known tree b leads.0 leads.1

-- whether operations write the cell
writes_cell : List Op → Cell → Bool
writes_cell ops cell = list_any (cell_eq cell) (cells_written ops)

is_exclusive : Locking → Bool
is_exclusive Unlocked = false
is_exclusive Exclusive = true
is_exclusive Shared = false

is_alone : Locking → Bool → Bool
is_alone locking writes = is_exclusive locking || writes

alone_from : (spaces : List Space) (ops : List Op) (cell : Cell) → is_alone (locking_of spaces cell) (writes_cell ops cell) ≡ true
    → (locking_of spaces cell ≡ Exclusive) ⊎ Contains (cells_written ops) cell
unfolding is_alone is_exclusive writes_cell
alone_from spaces ops cell alone = elim (or_cases (is_exclusive (locking_of spaces cell)) (writes_cell ops cell) alone) [
  | inl exclusive ↦ inl (by (locking_of spaces cell) exclusive)
  | inr writes ↦ inr (Contains-from_any cell_eq_same cell (cells_written ops) writes)
]
  where
    by : (locking : Locking) → is_exclusive locking ≡ true → locking ≡ Exclusive
    by Unlocked is = absurd (cc)
    by Exclusive is = refl
    by Shared is = absurd (cc)

alone_to : (spaces : List Space) (ops : List Op) (cell : Cell) → (locking_of spaces cell ≡ Exclusive) ⊎ Contains (cells_written ops) cell
    → is_alone (locking_of spaces cell) (writes_cell ops cell) ≡ true
unfolding is_alone is_exclusive writes_cell
alone_to spaces ops cell (inl exclusive) = rw exclusive refl
alone_to spaces ops cell (inr writes) = grind (arith, list_any-from_Contains cell_eq_equiv cell (cells_written ops) writes)

-- operations that name a cell with a lock use it, alone where the lock is exclusive or they write the cell
pub record HasUse (layout : Hierarchy) (ops : List Op) (locks : List Cell) (uses : List LockUse) (cell : Cell) : Type 0 where
  pub use_of : LockUse
  pub among : Contains uses use_of
  pub lock : use_of.lock ≡ number_in locks cell
  pub alone : (locking_of layout.spaces cell ≡ Exclusive) ⊎ Contains (cells_written ops) cell → use_of.alone ≡ true

pub has_use_of : (layout : Hierarchy) (messages : List Message) (locks : List Cell) (message : Message) (uses : List LockUse) (cell : Cell)
    → ListsLocks layout messages locks → Contains messages message → ListsUses layout message.ops locks uses → Contains (cells_of message.ops) cell
    → IsLocked layout.spaces cell → HasUse layout message.ops locks uses cell
has_use_of layout messages locks message uses cell lists in_messages uses_of named locked =
    let listed : Contains locks cell = (lists.each cell).1 (locked, (message, in_messages, named)) in
    let u : LockUse = record { lock = number_in locks cell; alone = is_alone (locking_of layout.spaces cell) (writes_cell message.ops cell) } in
    record {
      use_of = u;
      among = (uses_of.each u).1 (record {
        cell = cell;
        numbered = numbered locks lists.rising cell listed;
        named = named;
        alone = (alone_from layout.spaces message.ops cell, alone_to layout.spaces message.ops cell);
      });
      lock = refl;
      alone = alone_to layout.spaces message.ops cell;
    }

module _ (layout : Hierarchy) (is : IsLayout layout) where
  -- the lowest affinity that covers cells of the layout is one: the root covers them
  pub lowest_known : (cells : List Cell) (Has : Cell → Type 0) (a : ℕ) → All (IsCell layout.spaces) cells → ((cell : Cell) → Has cell → Contains cells cell)
      → IsLowest layout Has a → a < length layout.tree
  lowest_known cells Has a inside among lowest =
      let above : AtOrAbove layout.tree 0 a = lowest.lowest 0
      (λ cell has. root_above layout.tree is.tree (owner_of layout.spaces cell)
      (owner_known layout is cell (All-contains (IsCell layout.spaces) cells cell inside (among cell has)))) in
      below_known layout.tree above.0 0 a is.tree.filled above.1

  held_known : (messages : List Message) (locks : List Cell) (message : Message) (held : Held) → ListsLocks layout messages locks → Contains messages message
      → 1 ≤ length message.ops → All (IsCell layout.spaces) (cells_of message.ops) → IsHeldBy layout locks message held → IsHeldWithin (length layout.tree) held
  held_known messages locks message held lists among some inside by = record {
    affinity = λ a is_a.
        let (one, lowest) = subst (IsAffinityOf layout message.ops) is_a by.affinity in
        lowest_known (cells_of message.ops) (IsUnlockedAmong layout (cells_of message.ops)) a inside (λ cell has. has.0) lowest;
    some = λ none.
        let (cell, named) = some_cell message.ops some in
        let one = has_use_of layout messages locks message held.uses cell lists among by.uses named ((subst (IsAffinityOf layout message.ops) none by.affinity) cell named) in
        omega (arith, one.among.1);
    rising = by.uses.rising;
  }

  -- what the messages of an assignment hold is of the tree
  pub are_known : (trace : Arrivals) (assigned : List Held) → IsTrace trace → trace.sizes ≡ sizes_of layout.spaces
      → IsAssignment layout trace.messages assigned → AreKnown layout.tree assigned
  are_known trace assigned within sizes assignment k d short = elim ((slice_get_cases trace.messages k).1) [
    | inl (message, inside, at, read) ↦
        let has : Contains trace.messages message = (k, slice_get_within trace.messages k message at, get_or_from_slice_get trace.messages k message message at) in
        let fits = All-contains (IsMessage trace.version trace.sizes) trace.messages message within.messages has in
        let place : k + 1 - 1 ≡ k = omega arith in
        let holds : IsHeldBy layout assignment.locks message (get_or assigned k nothing)
        = subst (λ i. IsHeldBy layout assignment.locks message (get_or assigned i nothing)) place
        (assignment.each (k + 1) message (omega arith) (subst (λ i. slice_get trace.messages i ≡ Some message) (sym place) at)) in
        subst (IsHeldWithin (length layout.tree)) (get_or_default assigned k nothing d short)
        (held_known trace.messages assignment.locks message (get_or assigned k nothing) assignment.numbered has fits.some_ops
        (cells_of_layout trace.sizes layout.spaces (cells_of message.ops) sizes fits.cells) holds)
    | inr (past, none) ↦ absurd (omega (arith, assignment.count))
  ]

  pub affinity_known : (trace : Arrivals) (assigned : List Held) → IsTrace trace → trace.sizes ≡ sizes_of layout.spaces
      → IsAssignment layout trace.messages assigned → (n a : ℕ) → 1 ≤ n → n ≤ length trace.messages → affinity_of assigned n ≡ Some a → a < length layout.tree
  affinity_known trace assigned within sizes assignment n a from to is_a =
      (are_known trace assigned within sizes assignment (n - 1) nothing (omega (arith, assignment.count))).affinity a is_a

-- without locks no message uses one
pub unlocked_known : (layout : Hierarchy) (messages : List Message) (assigned : List Held) → has_locks layout.spaces ≡ false
    → IsAssignment layout messages assigned → AreUnlocked assigned
unlocked_known layout messages assigned none assignment k d short = elim ((slice_get_cases messages k).1) [
  | inl (message, inside, at, read) ↦
      let place : k + 1 - 1 ≡ k = omega arith in
      let holds : IsHeldBy layout assignment.locks message (get_or assigned k nothing)
      = subst (λ i. IsHeldBy layout assignment.locks message (get_or assigned i nothing)) place
      (assignment.each (k + 1) message (omega arith) (subst (λ i. slice_get messages i ≡ Some message) (sym place) at)) in
      let here : IsHeldBy layout assignment.locks message (get_or assigned k d)
      = subst (IsHeldBy layout assignment.locks message) (get_or_default assigned k nothing d short) holds in
      no_elements (get_or assigned k d).uses (λ u has.
      let by = (here.uses.each u).0 has in
      let among : Contains assignment.locks by.cell
      = (u.lock, slice_get_within assignment.locks u.lock by.cell by.numbered, get_or_from_slice_get assignment.locks u.lock by.cell by.cell by.numbered) in
      none_is_locked layout.spaces none by.cell ((assignment.numbered.each by.cell).0 among).0)
  | inr (past, none) ↦ absurd (omega (arith, assignment.count))
]
  where
    no_elements : (uses : List LockUse) → ((u : LockUse) → Contains uses u → ⊥) → uses ≡ []
    no_elements [] free = refl
    no_elements (u ∷ uses) free = absurd (free u (first_in u uses))

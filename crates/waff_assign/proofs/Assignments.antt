-- What messages hold, one message after another, and the cells of a message as cells of the layout.
use Rattle.std.proofs.Common.{◌≡◌, ℕ, zero, suc, refl, ◌+◌, ◌-◌, ◌<◌, ◌≤◌, inl, inr, List, [], ◌∷◌, ◌++◌, length, get_or, All, Contains, Option, None, Some, option_map, slice_get, arith, sym, ◌∙◌, ap, subst}
use Rattle.std.specs.Prelude.{IfSome}
use Rattle.std.specs.List.{AllZip, range_with_len}
use Rattle.std.specs.List.Sorted.{IsStrictlySortedBy}
use Rattle.std.proofs.lemmas.Bool.{cases_eq, cases_lt}
use Rattle.std.proofs.lemmas.List.{get_or-append_right, get_or_append_left, get_or_default, get_or_push, length-append, length_push}
use Rattle.std.proofs.lemmas.List.Elements.{All-weaker, Contains-get_or}
use Rattle.std.proofs.lemmas.Option.{get_or_from_slice_get, none-some, same_Some, slice_get_cases, slice_get_within}
use Rattle.waff_model.specs.Cells.{LiesIn, cells_of}
use Rattle.waff_model.specs.Layout.{Hierarchy, IsLocked, Space, IsCell, size_at}
use Rattle.waff_model.specs.Messages.{Arrivals, IsMessage, IsTrace, sizes_of}
use Rattle.waff_model.specs.declared.cell.Cell.{Cell}
use Rattle.waff_model.specs.declared.message.Message.{Message}
use Rattle.waff_model.specs.declared.op.Op.{Op}
use Rattle.waff_model.specs.declared.op.Op.TheVariants.{Set, Add, Copy, Swap, Read}
use Rattle.waff_model.specs.declared.tree.AffinityId.{AffinityId}
use Rattle.waff_model.proofs.TraceLemmas.{slice_index-sizes_of}
use Rattle.waff_assign.specs.Footprint.{cell_cmp}
use Rattle.waff_assign.specs.Held.{AreKnown, AreLocksBelow, Held, nothing}
use Rattle.waff_assign.specs.Lowest.{IsAffinityOf, IsAssignment, IsInFootprint, IsLowest, IsSomeLowestOf, ListsLocks, ListsUses}
use Rattle.waff_assign.specs.Order.{helds_of, uses_at}
use Rattle.waff_assign.specs.Parts.{AreHeldBehind, IsHeldRightly, IsPart}
use Rattle.waff_assign.specs.Uses.{is_locked, locked_cells}
use Rattle.waff_assign.specs.declared.held.LockUse.{LockUse}
use Rattle.waff_assign.proofs.Elements.{first_in, in_filter, none_in_nil}
use Rattle.waff_assign.proofs.Numbering.{true_locked}
use Rattle.waff_assign.proofs.Helds.{helds_at, helds_count, uses_at_none}

-- cells that lie in spaces of these sizes are cells of a layout with these sizes
pub cells_of_layout : (sizes : List ℕ) (spaces : List Space) (cells : List Cell) → sizes ≡ sizes_of spaces
    → All (LiesIn sizes) cells → All (IsCell spaces) cells
cells_of_layout sizes spaces cells same lie k d within =
    let cell = get_or cells k d in
    let size : get_or sizes cell.space 0 ≡ size_at spaces cell.space = ap (λ xs. get_or xs cell.space 0) same ∙ slice_index-sizes_of spaces cell.space in
    subst (λ n. cell.index < n) size (lie k d within)

-- so do the first messages
abbrev pub AreHeldRightly : Hierarchy → List Cell → List Message → List Held → Type 0
AreHeldRightly layout locks messages helds =
    (k : ℕ) (message : Message) → k < length helds → slice_get messages k ≡ Some message
    → IsHeldRightly layout locks message (get_or helds k nothing)

module _ (layout : Hierarchy) (locks : List Cell) (messages : List Message) (before : ℕ) where
  -- one message more of a part
  pub held_more : (helds : List Held) (message : Message) (held : Held)
      → slice_get messages (before + length helds) ≡ Some message → IsHeldRightly layout locks message held
      → AreHeldBehind layout locks messages before helds → AreHeldBehind layout locks messages before (helds ++ held ∷ [])
  held_more helds message held is right all k m within at =
      elim (cases_eq k (length helds)) [
        | inl here ↦
            let same : message ≡ m = same_Some message m (sym is ∙ ap (λ i. slice_get messages (before + i)) (sym here) ∙ at) in
            rw (get_or_push helds held nothing k (sym here)) (subst (λ x. IsHeldRightly layout locks x held) same right)
        | inr other ↦
            let short : k < length helds = omega (arith, length_push helds held) in
            rw (get_or_append_left helds (held ∷ []) nothing k short) (all k m short at)
      ]

  -- another part behind it
  pub part_more : (middle end : ℕ) (first second : List Held) → IsPart layout locks messages before middle first
      → IsPart layout locks messages middle end second → IsPart layout locks messages before end (first ++ second)
  part_more middle end first second front back = record {
    count = omega (arith, front.count, back.count, length-append first second);
    each = λ k message within at. elim (cases_lt k (length first)) [
      | inl short ↦
          rw (get_or_append_left first second nothing k short) (front.each k message short at)
      | inr past ↦
          let place : middle + (k - length first) ≡ before + k = omega (arith, front.count) in
          rw (get_or-append_right first second (length first) k nothing refl past)
          (back.each (k - length first) message (omega (arith, length-append first second)) (ap (slice_get messages) place ∙ at))
    ];
  }

-- the messages behind none are all
pub part_of_all : (layout : Hierarchy) (locks : List Cell) (messages : List Message) (helds : List Held) → AreHeldBehind layout locks messages 0 helds
    → AreHeldRightly layout locks messages helds
part_of_all layout locks messages helds all k message within at =
    let place : 0 + k ≡ k = omega arith in
    all k message within (ap (slice_get messages) place ∙ at)

-- what a message holds is of the locks where its uses are listed
pub below_locks : (layout : Hierarchy) (ops : List Op) (locks : List Cell) (uses : List LockUse) → ListsUses layout ops locks uses
    → All (λ u. u.lock < length locks) uses
below_locks layout ops locks uses lists k d within =
    let u = get_or uses k d in
    let is_use = (lists.each u).0 (Contains-get_or uses k d within) in
    slice_get_within locks u.lock is_use.cell is_use.numbered

-- a message names a cell
pub some_cell : (ops : List Op) → 1 ≤ length ops → (cell : Cell) × Contains (cells_of ops) cell
some_cell [] some = absurd (omega arith)
some_cell (Set cell value ∷ ops) some = (cell, first_in cell (cells_of ops))
some_cell (Add cell value ∷ ops) some = (cell, first_in cell (cells_of ops))
some_cell (Copy cell source ∷ ops) some = (cell, first_in cell (source ∷ cells_of ops))
some_cell (Swap cell other ∷ ops) some = (cell, first_in cell (other ∷ cells_of ops))
some_cell (Read cell ∷ ops) some = (cell, first_in cell (cells_of ops))

-- what a message holds where its affinity and the uses of locks are found
pub held_rightly : (layout : Hierarchy) (locks : List Cell) (message : Message) (affinity : Option ℕ) (uses : List LockUse) → 1 ≤ length message.ops
    → IsAffinityOf layout message.ops affinity → ((a : ℕ) → affinity ≡ Some a → a < length layout.tree) → ListsUses layout message.ops locks uses
    → ((cell : Cell) → Contains (cells_of message.ops) cell → IsLocked layout.spaces cell → 0 < length uses)
    → IsHeldRightly layout locks message (record { affinity = affinity; uses = uses })
held_rightly layout locks message affinity uses many lowest within lists some = record {
  holds = record { affinity = lowest; uses = lists };
  known = record {
    affinity = within;
    some = λ none.
        let (cell, named) = some_cell message.ops many in
        some cell named ((subst (IsAffinityOf layout message.ops) none lowest) cell named);
    rising = lists.rising;
  };
  below = below_locks layout message.ops locks uses lists;
}

-- the assignment, where all messages hold what they should
module _ (layout : Hierarchy) (locks : List Cell) (messages : List Message) (helds : List Held) (count : length helds ≡ length messages)
    (lists : ListsLocks layout messages locks) (all : AreHeldRightly layout locks messages helds) where
  right_at : (k : ℕ) (d : Held) → k < length helds → (message : Message) × IsHeldRightly layout locks message (get_or helds k d)
  right_at k d within = elim ((slice_get_cases messages k).1) [
    | inl (message, short, at, read) ↦
        (message, subst (IsHeldRightly layout locks message) (get_or_default helds k nothing d within) (all k message within at))
    | inr (past, none) ↦ absurd (omega arith)
  ]

  pub assignment_of_all : IsAssignment layout messages helds
  assignment_of_all = record {
    count = count;
    locks = locks;
    numbered = lists;
    each = λ n message from at.
        let short = slice_get_within messages (n - 1) message at in
        (all (n - 1) message (omega (arith, short)) at).holds;
  }

  pub known_of_all : AreKnown layout.tree helds
  known_of_all k d within = (right_at k d within).1.known

  pub below_of_all : AreLocksBelow (length locks) helds
  below_of_all k d within = (right_at k d within).1.below

nothing_rises : IsStrictlySortedBy cell_cmp []
unfolding IsStrictlySortedBy
nothing_rises = tt

-- a layout without locks: no message uses one
module _ (layout : Hierarchy) (free : (cell : Cell) → ¬ IsLocked layout.spaces cell) where
  pub no_locks : (messages : List Message) → ListsLocks layout messages []
  no_locks messages = record {
    each = λ cell. (λ has. absurd (none_in_nil cell has), λ named. absurd (free cell named.0));
    rising = nothing_rises;
  }

  no_uses : (ops : List Op) → ListsUses layout ops [] []
  no_uses ops = record {
    each = λ u. (λ has. absurd (none_in_nil u has), λ is_use. absurd (none-some is_use.cell is_use.numbered));
    rising = λ p q u v before is_u is_v. absurd (cc);
  }

  -- the affinity of a footprint is that of its cells
  unlocked_affinity : (ops : List Op) (a : ℕ) → 1 ≤ length ops → IsLowest layout (IsInFootprint ops) a → IsAffinityOf layout ops (Some a)
  unlocked_affinity ops a many lowest =
      let (cell, named) = some_cell ops many in (
        (cell, (named, free cell)),
        record {
          covers = λ c has. lowest.covers c has.0;
          lowest = λ other covers. lowest.lowest other (λ c has. covers c (has, free c));
        },
      )

  -- what a message holds whose affinity is found
  unlocked_rightly : (messages : List Message) (k : ℕ) (message : Message) (affinity : Option AffinityId) (uses : List LockUse) → 1 ≤ length message.ops
      → slice_get messages k ≡ Some message → IsSomeLowestOf layout messages (k + 1) affinity → uses ≡ []
      → IsHeldRightly layout [] message (record { affinity = option_map (λ (a : AffinityId). a.0) affinity; uses = uses })
  unlocked_rightly messages k message affinity uses many at (a, is, lowest, within) none =
      let place : k + 1 - 1 ≡ k = omega arith in
      let low = lowest message (ap (slice_get messages) place ∙ at) in
      rw (is, none)
      (held_rightly layout [] message (Some a.0) [] many (unlocked_affinity message.ops a.0 many low)
      (λ b same. subst (λ n. n < length layout.tree) (same_Some a.0 b same) within) (no_uses message.ops)
      (λ cell named locked. absurd (free cell locked)))

  pub unlocked_all : (messages : List Message) (affinities : List (Option AffinityId)) → All (λ m. 1 ≤ length m.ops) messages
      → ((k : ℕ) → k < length affinities → IsSomeLowestOf layout messages (k + 1) (get_or affinities k None))
      → AreHeldRightly layout [] messages (helds_of affinities [] [])
  unlocked_all messages affinities many each k message within at =
      let short : k < length affinities = omega (arith, helds_count affinities [] []) in
      let inside = slice_get_within messages k message at in
      let ops : 1 ≤ length message.ops
      = subst (λ (m : Message). 1 ≤ length m.ops) (get_or_from_slice_get messages k message message at) (many k message inside) in
      rw (helds_at affinities [] [] k nothing short)
      (unlocked_rightly messages k message (get_or affinities k None) (uses_at [] [] k) ops at (each k short) (uses_at_none [] [] k refl))

  -- the assignment without locks
  pub unlocked_assignment : (trace : Arrivals) (affinities : List (Option AffinityId)) → IsTrace trace → length affinities ≡ length trace.messages
      → ((k : ℕ) → k < length affinities → IsSomeLowestOf layout trace.messages (k + 1) (get_or affinities k None))
      → IsAssignment layout trace.messages (helds_of affinities [] []) × AreKnown layout.tree (helds_of affinities [] [])
  unlocked_assignment trace affinities is count each =
      let messages = trace.messages in
      let many : All (λ m. 1 ≤ length m.ops) messages
      = All-weaker (IsMessage trace.version trace.sizes) (λ (m : Message). 1 ≤ length m.ops) (λ m h. h.some_ops) messages is.messages in
      let right = unlocked_all messages affinities many each in
      let whole : length (helds_of affinities [] []) ≡ length messages = helds_count affinities [] [] ∙ count in (
        assignment_of_all layout [] messages (helds_of affinities [] []) whole (no_locks messages) right,
        known_of_all layout [] messages (helds_of affinities [] []) whole (no_locks messages) right,
      )

-- what holds of each of some affinities, by their numbers from 1, and of one more
pub each_more : (S : ℕ → Option AffinityId → Type 0) (affinities : List (Option AffinityId)) (new : Option AffinityId)
    → ((k : ℕ) → k < length affinities → S (k + 1) (get_or affinities k None)) → S (length affinities + 1) new
    → (k : ℕ) → k < length (affinities ++ new ∷ []) → S (k + 1) (get_or (affinities ++ new ∷ []) k None)
each_more S affinities new each here k within = elim (cases_eq k (length affinities)) [
  | inl last ↦
      let same : length affinities + 1 ≡ k + 1 = omega arith in
      rw (get_or_push affinities new None k (sym last)) (subst (λ n. S n new) same here)
  | inr other ↦
      let short : k < length affinities = omega (arith, length_push affinities new) in
      rw (get_or_append_left affinities (new ∷ []) None k short) (each k short)
]

-- and of each beside its number in a list of numbers
pub each_beside : (S : ℕ → Option AffinityId → Type 0) (from count : ℕ) (affinities : List (Option AffinityId)) → AllZip S (range_with_len from count) affinities
    → (length affinities ≡ count) × ((k : ℕ) → k < count → S (from + k) (get_or affinities k None))
each_beside S from zero [] each = (refl, λ k within. absurd (omega arith))
each_beside S from zero (a ∷ more) each = absurd each
each_beside S from (suc count) [] each = absurd each
each_beside S from (suc count) (a ∷ more) each =
    let rest = each_beside S (from + 1) count more each.1 in
    (ap suc rest.0, by rest.1)
  where
    by : ((k : ℕ) → k < count → S (from + 1 + k) (get_or more k None)) → (k : ℕ) → k < suc count → S (from + k) (get_or (a ∷ more) k None)
    by later zero within =
        let same : from ≡ from + 0 = omega arith in
        subst (λ n. S n a) same each.0
    by later (suc k) within =
        let same : from + 1 + k ≡ from + suc k = omega arith in
        subst (λ n. S n (get_or more k None)) same (later k (omega arith))

-- the affinities that are found beside the numbers of all messages
pub each_found : (layout : Hierarchy) (messages : List Message) (from to : ℕ) (numbers : List ℕ) (found affinities : List (Option AffinityId))
    → from ≡ 1 → to ≡ length messages + 1 → numbers ≡ range_with_len from (to - from) → affinities ≡ found
    → AllZip (IsSomeLowestOf layout messages) numbers found
    → (length affinities ≡ length messages) × ((k : ℕ) → k < length affinities → IsSomeLowestOf layout messages (k + 1) (get_or affinities k None))
each_found layout messages from to numbers found affinities first past are same each =
    let whole : to - from ≡ length messages = omega arith in
    let beside = each_beside (IsSomeLowestOf layout messages) 1 (length messages) affinities
    (rw (← first, ← whole, ← are, same) each) in (
      beside.0,
      λ k within.
          let place : 1 + k ≡ k + 1 = omega arith in
          subst (λ n. IsSomeLowestOf layout messages n (get_or affinities k None)) place (beside.1 k (omega (arith, beside.0))),
    )

-- the locks that messages name are listed, and no other cells
pub listed_of : (layout : Hierarchy) (messages : List Message) (locks : List Cell) (k : ℕ) (message : Message) → ListsLocks layout messages locks
    → slice_get messages k ≡ Some message → All (Contains locks) (locked_cells layout.spaces (cells_of message.ops))
listed_of layout messages locks k message lists at i d within =
    let cells = locked_cells layout.spaces (cells_of message.ops) in
    let cell = get_or cells i d in
    let named = in_filter (is_locked layout.spaces) (cells_of message.ops) cell (Contains-get_or cells i d within) in
    let among : Contains messages message = (k, slice_get_within messages k message at, get_or_from_slice_get messages k message message at) in
    (lists.each cell).1 (true_locked layout.spaces cell named.1, (message, among, named.0))

pub locked_of : (layout : Hierarchy) (messages : List Message) (locks : List Cell) → ListsLocks layout messages locks → All (IsLocked layout.spaces) locks
locked_of layout messages locks lists k d within = ((lists.each (get_or locks k d)).0 (Contains-get_or locks k d within)).0

-- an affinity that is found is of the tree
pub within_of : (count : ℕ) (affinity : Option AffinityId) → IfSome affinity (λ (a : AffinityId). a.0 < count)
    → (b : ℕ) → option_map (λ (a : AffinityId). a.0) affinity ≡ Some b → b < count
within_of count None known b is = absurd (none-some b is)
within_of count (Some a) known b is = subst (λ n. n < count) (same_Some a.0 b is) known

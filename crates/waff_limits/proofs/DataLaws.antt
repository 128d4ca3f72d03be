-- The data and the hierarchies over them.
use Rattle.std.proofs.Common.{◌≡◌, ◌≢◌, ℕ, zero, suc, ◌+◌, ◌-◌, ◌<◌, ◌≤◌, ◌&&◌, ◌||◌, not, true, false, Bool, cond, max, inl, inr, Contains, Option, Some, None, List, [], ◌∷◌, length, map, take, get_or, sum_by, refl, sym, ◌∙◌, ap, subst, arith}
use Rattle.std.specs.List.{list_any, range_with_len}
use Rattle.std.proofs.lemmas.Bool.{and_from, cases_Bool, cond-false, cond-true, or_parts}
use Rattle.std.proofs.lemmas.List.{take_all, take_more}
use Rattle.std.proofs.lemmas.List.FromFn.{get_or-map-range_with_len, length-map-range_with_len}
use Rattle.std.proofs.lemmas.List.Recursion.{max_bounds}
use Rattle.std.proofs.lemmas.List.Sums.{sum_by-append, sum_by-cons}
use Rattle.std.proofs.lemmas.Map.Views.{Contains-from_any}
use Rattle.std.proofs.lemmas.Option.{slice_get-get_or}
use Rattle.waff_model.specs.Cells.{cells_of}
use Rattle.waff_model.specs.Layout.{Hierarchy, IsCell, IsLayout, IsLocked, Space, are_locked, locking_of, owner_of}
use Rattle.waff_model.specs.declared.locking.Locking.{Locking}
use Rattle.waff_model.specs.declared.locking.Locking.TheVariants.{Exclusive, Shared, Unlocked}
use Rattle.waff_model.specs.declared.cell.Cell.{Cell}
use Rattle.waff_model.specs.declared.message.Message.{Message}
use Rattle.waff_model.proofs.OwnerLemmas.{owner_is_affinity}
use Rattle.waff_assign.specs.Lowest.{IsAffinityOf, IsAssignment}
use Rattle.waff_assign.specs.Order.{affinity_of}
use Rattle.waff_assign.proofs.CellOrder.{cell_eq_same}
use Rattle.waff_plan.specs.LowerBound.{option_is, path_cost}
use Rattle.waff_plan.specs.Timetable.{message_of, no_message, timing_at, work_of_messages}
use Rattle.waff_plan.specs.declared.timing.Timing.{Timing}
use Rattle.waff_plan.specs.Work.{IsAmongFirst, IsNumber, Work, greatest, numbers}
use Rattle.waff_plan.proofs.Longest.{sum_more}
use Rattle.waff_plan.proofs.LowerBounds.{RunsOver, within_path}
use Rattle.waff_plan.proofs.TimingLemmas.{timing_is}
use Rattle.waff_limits.specs.Data.{IsMostOf, cost_on, is_cell, ticks_on}
use Rattle.waff_limits.specs.Laws.{DataBoundsTree, tree_ticks}
use Rattle.waff_limits.specs.Limits.{ticks_of}
use Rattle.waff_limits.specs.Locks.{kept_by, keeps, names, shared_by, ticks_locked, ticks_needed, ticks_under, uses_alone}
use Rattle.waff_limits.specs.Writes.{read_cost, ticks_shared, ticks_written, writes, written_cost}
use Rattle.waff_limits.specs.declared.data.CellUse.{CellUse}
use Rattle.waff_limits.proofs.Ranges.{messages_within, one_within, sum_within, sum_within_by}
use Rattle.waff_limits.proofs.SharedCells.{needed_more, needed_within}
use Rattle.waff_limits.proofs.Uses.{cost_within}
use Rattle.waff_assign.specs.Held.{Held}

-- a sum over messages by their numbers
sum_by_numbers : (f : Message → ℕ) (messages : List Message) (n : ℕ) → n ≤ length messages
    → sum_by f (take n messages) ≡ sum_by (λ m. f (message_of messages m)) (range_with_len 1 n)
sum_by_numbers f messages zero few = refl
sum_by_numbers f messages (suc n) few =
    let next : suc n ≡ n + 1 = omega arith in
    let last = get_or messages n no_message in
    let here : f last ≡ f (message_of messages (n + 1)) = ap (λ k. f (get_or messages k no_message)) (let back : n ≡ n + 1 - 1 = omega arith in back) in
    let taken = ap (sum_by f) (ap (λ k. take k messages) next ∙ take_more messages n no_message few) ∙ sum_by-append f (take n messages) (last ∷ []) in
    let ranged = ap (λ k. sum_by (λ m. f (message_of messages m)) (range_with_len 1 k)) next ∙ sum_more (λ m. f (message_of messages m)) n in
    omega (arith, taken, sum_by-cons f last [], sum_by_numbers f messages n (omega (arith, few)), ranged, here)

sum_by_number : (f : Message → ℕ) (messages : List Message) → sum_by f messages ≡ sum_by (λ m. f (message_of messages m)) (range_with_len 1 (length messages))
sum_by_number f messages = ap (sum_by f) (sym (take_all (length messages) messages (omega arith))) ∙ sum_by_numbers f messages (length messages) (omega arith)

on_by_number : (messages : List Message) (cell : Cell) → ticks_on messages cell ≡ sum_by (λ m. cost_on cell (message_of messages m)) (range_with_len 1 (length messages))
on_by_number messages cell = sum_by_number (cost_on cell) messages

module _ (layout : Hierarchy) (messages : List Message) (assigned : List Held) (is : IsLayout layout) (are : IsAssignment layout messages assigned)
    (cell : Cell) (unlocked : ¬ IsLocked layout.spaces cell) where
  abbrev work : Work
  work = work_of_messages messages

  -- the cost of message m, if it uses the cell
  abbrev used_by : ℕ → ℕ
  used_by m = cost_on cell (message_of messages m)

  count : work.count ≡ length messages
  count = length-map-range_with_len (timing_at messages) 1 (length messages)

  known : (m : ℕ) → IsNumber work m → IsAmongFirst (length messages) m
  known m number = record { from = number.from; to = omega (arith, number.to, count) }

  by_number : ticks_on messages cell ≡ sum_by used_by (numbers work)
  by_number = on_by_number messages cell ∙ ap (λ n. sum_by used_by (range_with_len 1 n)) (sym count)

  within : (m : ℕ) → IsNumber work m → used_by m ≤ work.cost m
  within m number =
      let cost : work.cost m ≡ (message_of messages m).cost = ap (λ (t : Timing). t.cost) (timing_is messages m (known m number)) in
      omega (arith, cost, cost_within cell (message_of messages m))

  -- a message that uses the cell, which has no lock, runs at or above its owner
  above : (m : ℕ) → IsNumber work m → 0 < used_by m → RunsOver layout.tree assigned work (owner_of layout.spaces cell) m
  above m number some =
      let message = message_of messages m in
      let all = cells_of message.ops in
      let there : m - 1 < length messages = omega (arith, number.from, (known m number).to) in
      elim (cases_Bool (list_any (is_cell cell) all)) [
        | inl has ↦ runs (affinity_of assigned m) refl (are.each m message number.from (slice_get-get_or messages (m - 1) no_message there)).affinity
            (Contains-from_any cell_eq_same cell all has)
        | inr not ↦ absurd (omega (arith, some, cond-false (list_any (is_cell cell) all) message.cost 0 not))
      ]
    where
      runs : (o : Option ℕ) → affinity_of assigned m ≡ o → IsAffinityOf layout (message_of messages m).ops o → Contains (cells_of (message_of messages m).ops) cell
          → RunsOver layout.tree assigned work (owner_of layout.spaces cell) m
      runs None none all_locked named = absurd (unlocked (all_locked cell named))
      runs (Some a) runs_in affinity named = (a, runs_in, affinity.1.covers cell (named, unlocked))

  pub on_path : ticks_on messages cell ≤ path_cost layout.tree assigned work (owner_of layout.spaces cell)
  on_path = omega (arith, by_number, within_path layout.tree assigned work is.tree (owner_of layout.spaces cell) used_by within above)

tree_bounds : (layout : Hierarchy) (messages : List Message) (assigned : List Held) → IsLayout layout → IsAssignment layout messages assigned
    → (cell : Cell) → IsCell layout.spaces cell → ¬ IsLocked layout.spaces cell → ticks_on messages cell ≤ tree_ticks layout messages assigned
tree_bounds layout messages assigned is are cell lies unlocked =
    let owner = owner_of layout.spaces cell in
    let path = path_cost layout.tree assigned (work_of_messages messages) in
    let costs = map path (range_with_len 0 (length layout.tree)) in
    let known : owner < length layout.tree = owner_is_affinity layout.tree layout.spaces is.each cell lies in
    let short : owner < length costs = subst (λ n. owner < n) (sym (length-map-range_with_len path 0 (length layout.tree))) known in
    let at : get_or costs owner 0 ≡ path owner = get_or-map-range_with_len path 0 (length layout.tree) owner owner 0 known (omega arith) in
    let most : get_or costs owner 0 ≤ greatest costs = max_bounds greatest (λ x. x) refl (λ _ _. refl) costs owner 0 short in
    omega (arith, on_path layout messages assigned is are cell unlocked, at, most)

-- what one message counts for, by whether it runs in the root, names the cell and writes it
or_within : (root other : Bool) (cost : ℕ) → cond {A = ℕ} other cost 0 ≤ cond {A = ℕ} (root || other) cost 0
or_within true true cost = omega arith
or_within true false cost = omega arith
or_within false other cost = omega arith

in_root_within : (root named written : Bool) (cost : ℕ) → root ≡ true
    → cond {A = ℕ} written cost 0 + cond {A = ℕ} (named && not written) cost 0 ≤ cond {A = ℕ} (root || written) cost 0
in_root_within true true true cost is = omega arith
in_root_within true true false cost is = omega arith
in_root_within true false true cost is = omega arith
in_root_within true false false cost is = omega arith
in_root_within false named written cost is = absurd (cc)

not_in_root_within : (root named written : Bool) (cost : ℕ) → root ≡ false
    → cond {A = ℕ} (named && not written) cost 0 ≤ cond {A = ℕ} (not (root || written) && named) cost 0
not_in_root_within true named written cost is = absurd (cc)
not_in_root_within false true true cost is = omega arith
not_in_root_within false true false cost is = omega arith
not_in_root_within false false true cost is = omega arith
not_in_root_within false false false cost is = omega arith

-- the lock of a cell is needed no less than the cell
module _ (spaces : List Space) (messages : List Message) (assigned : List Held) (cell : Cell) where
  abbrev kept : ℕ
  kept = sum_by (kept_by spaces messages assigned cell) (range_with_len 1 (length messages))

  abbrev shared : ℕ
  shared = greatest (map (shared_by spaces messages assigned cell) (range_with_len 1 (length messages)))

  abbrev in_root : ℕ → Bool
  in_root m = option_is 0 (affinity_of assigned m)

  exclusive_within : locking_of spaces cell ≡ Exclusive → ticks_on messages cell ≤ kept + shared
  exclusive_within is =
      let each = sum_within (λ m. cost_on cell (message_of messages m)) (kept_by spaces messages assigned cell) (length messages)
      (λ m from to.
      let message = message_of messages m in
      let alone : keeps spaces messages assigned cell m ≡ (in_root m || names message.ops cell) = ap (λ l. in_root m || uses_alone l message.ops cell) is in
      let less = or_within (in_root m) (names message.ops cell) message.cost in
      omega (arith, less, ap (λ b. cond {A = ℕ} b message.cost 0) alone)) in
      omega (arith, on_by_number messages cell, each)

  shared_sum : locking_of spaces cell ≡ Shared → (m : ℕ) → kept_by spaces messages assigned cell m ≡ cond {A = ℕ} (in_root m || writes (message_of messages m).ops cell) (message_of messages m).cost 0
  shared_sum is m = ap (λ l. cond {A = ℕ} (in_root m || uses_alone l (message_of messages m).ops cell) (message_of messages m).cost 0) is

  shared_one : locking_of spaces cell ≡ Shared → (m : ℕ)
      → shared_by spaces messages assigned cell m ≡ cond {A = ℕ} (not (in_root m || writes (message_of messages m).ops cell) && names (message_of messages m).ops cell) (message_of messages m).cost 0
  shared_one is m = ap (λ l. cond {A = ℕ} (not (in_root m || uses_alone l (message_of messages m).ops cell) && names (message_of messages m).ops cell) (message_of messages m).cost 0) is

  written_within : locking_of spaces cell ≡ Shared → (m : ℕ) → written_cost cell (message_of messages m) ≤ kept_by spaces messages assigned cell m
  written_within is m = omega (arith, shared_sum is m, or_within (in_root m) (writes (message_of messages m).ops cell) (message_of messages m).cost)

  readers_within : locking_of spaces cell ≡ Shared → ticks_shared messages cell ≤ kept + shared
  readers_within is =
      let written = sum_by (λ m. written_cost cell (message_of messages m)) (range_with_len 1 (length messages)) in
      let all = sum_within (λ m. written_cost cell (message_of messages m)) (kept_by spaces messages assigned cell) (length messages) (λ m from to. written_within is m) in
      let same : ticks_written messages cell ≡ written = sum_by_number (written_cost cell) messages in
      let read = messages_within (read_cost cell) messages (kept + shared - written)
      (λ m from to.
      let message = message_of messages m in
      elim (cases_Bool (in_root m)) [
        | inl root ↦
            let one = in_root_within (in_root m) (names message.ops cell) (writes message.ops cell) message.cost root in
            let more = sum_within_by (λ k. written_cost cell (message_of messages k)) (kept_by spaces messages assigned cell) (length messages) m (read_cost cell message) from to
            (λ k from to. written_within is k) (omega (arith, one, shared_sum is m)) in
            omega (arith, more)
        | inr not_root ↦
            let one = not_in_root_within (in_root m) (names message.ops cell) (writes message.ops cell) message.cost not_root in
            omega (arith, one, shared_one is m, one_within (shared_by spaces messages assigned cell) (length messages) m from to, all)
      ]) in
      omega (arith, same, read, all)

  pub locked_within : IsLocked spaces cell → ticks_needed spaces messages cell ≤ ticks_locked spaces messages assigned cell
  locked_within locked = elim (cases_Bool (list_any (λ (m : Message). names m.ops cell) messages)) [
    | inr unnamed ↦ omega (arith, needed_within spaces messages cell, unnamed_unused messages unnamed)
    | inl named ↦
        let gate = and_from (are_locked (locking_of spaces cell)) (list_any (λ (m : Message). names m.ops cell) messages) (has_lock (locking_of spaces cell) locked) named in
        omega (
          arith,
          by (locking_of spaces cell) refl,
          cond-true (are_locked (locking_of spaces cell) && list_any (λ (m : Message). names m.ops cell) messages) (kept + shared) 0 gate,
        )
  ]
    where
      has_lock : (locking : Locking) → locking ≢ Unlocked → are_locked locking ≡ true
      has_lock Unlocked is = absurd (is refl)
      has_lock Exclusive is = refl
      has_lock Shared is = refl

      by : (locking : Locking) → locking_of spaces cell ≡ locking → ticks_needed spaces messages cell ≤ kept + shared
      by Unlocked is = absurd (locked is)
      by Exclusive is = subst (λ l. ticks_under l messages cell ≤ kept + shared) (sym is) (exclusive_within is)
      by Shared is = subst (λ l. ticks_under l messages cell ≤ kept + shared) (sym is) (readers_within is)

      unnamed_unused : (list : List Message) → list_any (λ (m : Message). names m.ops cell) list ≡ false → ticks_on list cell ≡ 0
      unnamed_unused [] none = refl
      unnamed_unused (m ∷ list) none =
          let parts = or_parts (names m.ops cell) (list_any (λ (n : Message). names n.ops cell) list) none in
          omega (arith, sum_by-cons (cost_on cell) m list, cond-false (list_any (is_cell cell) (cells_of m.ops)) m.cost 0 parts.0, unnamed_unused list parts.1)

pub data_bounds : (spaces : List Space) (layout : Hierarchy) (messages : List Message) (assigned : List Held) → DataBoundsTree spaces layout messages assigned
data_bounds spaces layout messages assigned is are shares locks most cell lies =
    let less = needed_more spaces layout.spaces messages cell (shares cell) in
    by (locking_of layout.spaces cell) refl less
  where
    within : (locks : Option CellUse) → IsMostOf (ticks_locked layout.spaces messages assigned) locks → ticks_locked layout.spaces messages assigned cell ≤ ticks_of locks
    within None none = omega (arith, none cell)
    within (Some one) most = most.most cell

    by : (locking : Locking) → locking_of layout.spaces cell ≡ locking → ticks_needed spaces messages cell ≤ ticks_needed layout.spaces messages cell
        → ticks_needed spaces messages cell ≤ max (tree_ticks layout messages assigned) (ticks_of locks)
    by Unlocked here less =
        let used : ticks_needed layout.spaces messages cell ≡ ticks_on messages cell = ap (λ l. ticks_under l messages cell) here in
        omega (arith, less, used, tree_bounds layout messages assigned is are cell lies (λ locked. locked here))
    by Exclusive here less =
        omega (arith, less, locked_within layout.spaces messages assigned cell (λ unlocked. let wrong : Exclusive ≡ Unlocked = sym here ∙ unlocked in cc), within locks most)
    by Shared here less =
        omega (arith, less, locked_within layout.spaces messages assigned cell (λ unlocked. let wrong : Shared ≡ Unlocked = sym here ∙ unlocked in cc), within locks most)

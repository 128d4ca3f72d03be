-- What messages need of locks, by cells and by the numbers of the locks.
use Rattle.std.proofs.Common.{◌≡◌, ◌≢◌, ◌⊎◌, inl, inr, ℕ, ◌+◌, ◌-◌, ◌<◌, ◌≤◌, ◌&&◌, ◌||◌, not, Bool, true, false, cond, List, All, Contains, Option, Some, None, slice_get, length, get_or, map, sum_by, refl, sym, ◌∙◌, ap, ap₂, subst, arith}
use Rattle.std.specs.Cmp.{both_ways}
use Rattle.std.specs.List.{list_any, range_with_len}
use Rattle.std.specs.Ordering.{nat_cmp, ordering_then}
use Rattle.std.specs.Cmp.{nat_cmp_is}
use Rattle.std.specs.declared.cmp.Ordering.TheVariants.{Less, Equal}
use Rattle.std.proofs.lemmas.Bool.{and_from, and_parts, cases_Bool, cases_order, cond-false, cond-true}
use Rattle.std.proofs.lemmas.List.FromFn.{get_or-map-range_with_len, length-map-range_with_len}
use Rattle.std.proofs.lemmas.List.Folds.{Any-from_list_any, list_any_at}
use Rattle.std.proofs.lemmas.List.Recursion.{max_bounds, max_least}
use Rattle.std.proofs.lemmas.Map.Keys.{Less-from_sorted}
use Rattle.std.proofs.lemmas.Map.Views.{Contains-from_any, list_any-from_Contains}
use Rattle.std.proofs.lemmas.Option.{get_or_from_slice_get, same_Some, slice_get-get_or, slice_get_within}
use Rattle.std.proofs.lemmas.List.{get_or_default}
use Rattle.waff_model.specs.Cells.{cells_of, cells_written}
use Rattle.waff_model.specs.Layout.{Hierarchy, IsLocked, are_locked, locking_of}
use Rattle.waff_model.specs.declared.cell.Cell.{Cell}
use Rattle.waff_model.specs.declared.locking.Locking.{Locking}
use Rattle.waff_model.specs.declared.locking.Locking.TheVariants.{Exclusive, Shared, Unlocked}
use Rattle.waff_model.specs.declared.message.Message.{Message}
use Rattle.waff_model.specs.declared.op.Op.{Op}
use Rattle.waff_assign.specs.Footprint.{cell_cmp}
use Rattle.waff_assign.specs.Held.{AreLocksBelow, Held, nothing}
use Rattle.waff_assign.specs.Lowest.{IsAssignment, IsHeldBy, IsUseOf, ListsLocks}
use Rattle.waff_assign.specs.Order.{affinity_of, held_of}
use Rattle.waff_assign.specs.declared.held.LockUse.{LockUse}
use Rattle.waff_assign.proofs.CellOrder.{cell_cmp_total, cell_eq_equiv, cell_eq_same}
use Rattle.waff_assign.proofs.Elements.{same_elements}
use Rattle.waff_plan.specs.LowerBound.{greatest_lock, kept_cost, keeps_lock, lock_cost, option_is, shared_cost, shares_lock, uses_alone as uses_lock_alone, uses_lock}
use Rattle.waff_plan.specs.Peak.{IsPeak}
use Rattle.waff_plan.specs.Timetable.{message_of, no_message, timings_of}
use Rattle.waff_plan.specs.Timing.{work_of}
use Rattle.waff_plan.specs.Work.{IsNumber, Work, greatest, numbers}
use Rattle.waff_plan.specs.declared.peak.Peak.{Peak}
use Rattle.waff_plan.specs.declared.timing.Timing.{Timing}
use Rattle.waff_plan.proofs.LockNeedLemmas.{greatest_is}
use Rattle.waff_plan.proofs.TimingLemmas.{length-timings_of, timing_is}
use Rattle.waff_plan.proofs.LockUses.{alone_of, alone_uses, of_alone, of_use, use_of}
use Rattle.waff_limits.specs.Data.{ComesBefore, IsMost, IsMostOf, is_cell}
use Rattle.waff_limits.specs.Limits.{ticks_of}
use Rattle.waff_limits.specs.Locks.{kept_by, keeps, names, shared_by, ticks_locked, uses_alone}
use Rattle.waff_limits.specs.Writes.{writes}
use Rattle.waff_limits.specs.declared.data.CellUse.{CellUse}
use Rattle.waff_limits.proofs.FirstCells.{cases_before}
use Rattle.waff_limits.proofs.Cells.{is_itself}
use Rattle.waff_limits.proofs.Ranges.{greatest_same, sum_same}
use Rattle.waff_limits.proofs.Sharing.{names as written_named}

-- a cell that comes before another is less
before_less : (cell other : Cell) → ComesBefore cell other → cell_cmp cell other ≡ Less
before_less cell other (inl space) = sym (ap (λ o. ordering_then o (nat_cmp cell.index other.index)) (nat_cmp_is cell.space other.space Less space))
before_less cell other (inr (space, index)) =
    sym (ap (λ o. ordering_then o (nat_cmp cell.index other.index)) (nat_cmp_is cell.space other.space Equal space)) ∙ sym (nat_cmp_is cell.index other.index Less index)

not_both : (cell other : Cell) → cell_cmp cell other ≡ Less → cell_cmp other cell ≡ Less → ⊥
not_both cell other less more = let both = cell_cmp_total.antisymm cell other in absurd (cc)

-- whether a cell has a lock
locked_true : (locking : Locking) → locking ≢ Unlocked → are_locked locking ≡ true
locked_true Unlocked locked = absurd (locked refl)
locked_true Exclusive locked = refl
locked_true Shared locked = refl

pub true_locked : (locking : Locking) → are_locked locking ≡ true → locking ≢ Unlocked
true_locked Unlocked is = absurd (cc)
true_locked Exclusive is = λ wrong. cc
true_locked Shared is = λ wrong. cc

named_of : (ops : List Op) (cell : Cell) → names ops cell ≡ true → Contains (cells_of ops) cell
named_of ops cell is = Contains-from_any cell_eq_same cell (cells_of ops) is

of_named : (ops : List Op) (cell : Cell) → Contains (cells_of ops) cell → names ops cell ≡ true
of_named ops cell has = list_any-from_Contains cell_eq_equiv cell (cells_of ops) has

-- who uses a lock alone names its cell
alone_names : (locking : Locking) (ops : List Op) (cell : Cell) → uses_alone locking ops cell ≡ true → names ops cell ≡ true
alone_names Unlocked ops cell is = absurd (cc)
alone_names Exclusive ops cell is = is
alone_names Shared ops cell is = written_named ops cell is

alone_where : (locking : Locking) (ops : List Op) (cell : Cell) → uses_alone locking ops cell ≡ true → (locking ≡ Exclusive) ⊎ Contains (cells_written ops) cell
alone_where Unlocked ops cell is = absurd (cc)
alone_where Exclusive ops cell is = inl refl
alone_where Shared ops cell is = inr (Contains-from_any cell_eq_same cell (cells_written ops) is)

where_alone : (locking : Locking) (ops : List Op) (cell : Cell) → locking ≢ Unlocked → names ops cell ≡ true
    → (locking ≡ Exclusive) ⊎ Contains (cells_written ops) cell → uses_alone locking ops cell ≡ true
where_alone Unlocked ops cell locked named which = absurd (locked refl)
where_alone Exclusive ops cell locked named which = named
where_alone Shared ops cell locked named (inl wrong) = absurd (cc)
where_alone Shared ops cell locked named (inr writes) = list_any-from_Contains cell_eq_equiv cell (cells_written ops) writes

module _ (layout : Hierarchy) (messages : List Message) (assigned : List Held) (are : IsAssignment layout messages assigned) where
  abbrev locks : List Cell
  locks = are.locks

  holds : (n : ℕ) → 1 ≤ n → n ≤ length messages → IsHeldBy layout locks (message_of messages n) (held_of assigned n)
  holds n from to =
      let there : n - 1 < length messages = omega (arith, from, to) in
      are.each n (message_of messages n) from (slice_get-get_or messages (n - 1) no_message there)

  -- one lock, and the message n
  module _ (lock : ℕ) (cell : Cell) (is : slice_get locks lock ≡ Some cell) where
    abbrev locking : Locking
    locking = locking_of layout.spaces cell

    listed : Contains locks cell
    listed = (lock, slice_get_within locks lock cell is, get_or_from_slice_get locks lock cell cell is)

    locked : IsLocked layout.spaces cell
    locked = ((are.numbered.each cell).0 listed).0

    module _ (n : ℕ) (from : 1 ≤ n) (to : n ≤ length messages) where
      abbrev ops : List Op
      ops = (message_of messages n).ops

      abbrev held : Held
      held = held_of assigned n

      cell_same : (u : LockUse) → u.lock ≡ lock → (by_use : IsUseOf layout ops locks u) → by_use.cell ≡ cell
      cell_same u same by_use = same_Some by_use.cell cell (sym by_use.numbered ∙ ap (slice_get locks) same ∙ is)

      use_names : uses_lock lock held ≡ true → names ops cell ≡ true
      use_names uses =
          let (u, has, same) = use_of lock held uses in
          let by_use = ((holds n from to).uses.each u).0 has in
          of_named ops cell (subst (Contains (cells_of ops)) (cell_same u same by_use) by_use.named)

      names_use : names ops cell ≡ true → Contains held.uses (record { lock = lock; alone = uses_alone locking ops cell })
      names_use named = ((holds n from to).uses.each (record { lock = lock; alone = uses_alone locking ops cell })).1 (record {
        cell = cell;
        numbered = is;
        named = named_of ops cell named;
        alone = (alone_where locking ops cell, where_alone locking ops cell locked named);
      })

      pub use_is : uses_lock lock held ≡ names ops cell
      use_is = both_ways _ _ use_names (λ named. of_use lock held (record { lock = lock; alone = uses_alone locking ops cell }, names_use named, refl))

      use_alone : uses_lock_alone lock held ≡ true → uses_alone locking ops cell ≡ true
      use_alone alone =
          let (u, has, same, is_alone) = alone_of lock held alone in
          let by_use = ((holds n from to).uses.each u).0 has in
          let this = cell_same u same by_use in
          where_alone locking ops cell locked (of_named ops cell (subst (Contains (cells_of ops)) this by_use.named))
          (subst (λ c. (locking_of layout.spaces c ≡ Exclusive) ⊎ Contains (cells_written ops) c) this (by_use.alone.0 is_alone))

      alone_is : uses_lock_alone lock held ≡ uses_alone locking ops cell
      alone_is = both_ways _ _ use_alone
          (λ alone. of_alone lock held (record { lock = lock; alone = uses_alone locking ops cell }, names_use (alone_names locking ops cell alone), refl, alone))

      keeps_is : keeps_lock lock held ≡ keeps layout.spaces messages assigned cell n
      keeps_is = ap (λ b. option_is 0 held.affinity || b) alone_is

    -- some message uses the lock
    pub some_use : list_any (uses_lock lock) assigned ≡ true
    some_use =
        let (message, (k, within, at), named) = ((are.numbered.each cell).0 listed).1 in
        let back : k + 1 - 1 ≡ k = omega arith in
        let message_is : message_of messages (k + 1) ≡ message = ap (λ i. get_or messages i no_message) back ∙ get_or_default messages k no_message message within ∙ at in
        let names_it : names (message_of messages (k + 1)).ops cell ≡ true = of_named _ cell (subst (λ (m : Message). Contains (cells_of m.ops) cell) (sym message_is) named) in
        let uses = use_is (k + 1) (omega arith) (omega (arith, within)) ∙ names_it in
        list_any_at (uses_lock lock) assigned k nothing (omega (arith, within, are.count)) (ap (λ i. uses_lock lock (get_or assigned i nothing)) (sym back) ∙ uses)

    some_names : list_any (λ (message : Message). names message.ops cell) messages ≡ true
    some_names =
        let (message, (k, within, at), named) = ((are.numbered.each cell).0 listed).1 in
        list_any_at (λ (m : Message). names m.ops cell) messages k message within (ap (λ (m : Message). names m.ops cell) at ∙ of_named message.ops cell named)

    module _ (work : Work) (count : work.count ≡ length messages) (costs : (m : ℕ) → IsNumber work m → work.cost m ≡ (message_of messages m).cost) where
      -- the lock needs what its cell does
      pub lock_is : lock_cost assigned work lock ≡ ticks_locked layout.spaces messages assigned cell
      lock_is =
          let spaces = layout.spaces in
          let number : (m : ℕ) → 1 ≤ m → m ≤ work.count → IsNumber work m = λ m from to. record { from = from; to = to } in
          let kept = sum_same (kept_cost assigned work lock) (kept_by spaces messages assigned cell) work.count (λ m from to.
          ap₂ (λ b c. cond {A = ℕ} b c 0) (keeps_is m from (omega (arith, to, count))) (costs m (number m from to))) in
          let shared = greatest_same (shared_cost assigned work lock) (shared_by spaces messages assigned cell) work.count (λ m from to.
          ap₂ (λ b c. cond {A = ℕ} b c 0)
          (ap₂ (λ a b. not a && b) (keeps_is m from (omega (arith, to, count))) (use_is m from (omega (arith, to, count)))) (costs m (number m from to))) in
          let sum = sum_by (kept_by spaces messages assigned cell) (range_with_len 1 (length messages)) in
          let most = greatest (map (shared_by spaces messages assigned cell) (range_with_len 1 (length messages))) in
          let gate : (are_locked locking && list_any (λ (message : Message). names message.ops cell) messages) ≡ true
          = and_from (are_locked locking) (list_any (λ (message : Message). names message.ops cell) messages) (locked_true locking locked) some_names in
          cond-true {A = ℕ} (list_any (uses_lock lock) assigned) _ 0 some_use
          ∙ ap₂ (λ a b. a + b) (kept ∙ ap (λ n. sum_by (kept_by spaces messages assigned cell) (range_with_len 1 n)) count)
          (shared ∙ ap (λ n. greatest (map (shared_by spaces messages assigned cell) (range_with_len 1 n))) count)
          ∙ sym (cond-true (are_locked locking && list_any (λ (message : Message). names message.ops cell) messages) (sum + most) 0 gate)

  -- a cell whose lock is needed has a number
  pub numbered : (cell : Cell) → 0 < ticks_locked layout.spaces messages assigned cell → (lock : ℕ) × (lock < length locks) × (slice_get locks lock ≡ Some cell)
  numbered cell some =
      let gate = are_locked (locking_of layout.spaces cell) && list_any (λ (message : Message). names message.ops cell) messages in
      let needed : ℕ = sum_by (kept_by layout.spaces messages assigned cell) (range_with_len 1 (length messages))
      + greatest (map (shared_by layout.spaces messages assigned cell) (range_with_len 1 (length messages))) in
      elim (cases_Bool gate) [
        | inr not_gate ↦ absurd (omega (arith, some, cond-false gate needed 0 not_gate))
        | inl is ↦
            let parts = and_parts (are_locked (locking_of layout.spaces cell)) (list_any (λ (message : Message). names message.ops cell) messages) is in
            let (k, message, within, at, named) = Any-from_list_any (λ (message : Message). names message.ops cell) messages parts.1 in
            let (lock, short, here) = (are.numbered.each cell).1 (true_locked (locking_of layout.spaces cell) parts.0, (message, (k, within, at), named_of message.ops cell named)) in
            (lock, short, slice_get-get_or locks lock cell short ∙ ap Some here)
      ]

  -- all uses are of these locks
  pub locks_below : AreLocksBelow (length locks) assigned
  locks_below k d within i u short =
      let held = get_or assigned k d in
      let has : Contains held.uses (get_or held.uses i u) = (i, short, get_or_default held.uses i (get_or held.uses i u) u short) in
      let there : k + 1 ≤ length messages = omega (arith, within, are.count) in
      let back : k + 1 - 1 ≡ k = omega arith in
      let same : held_of assigned (k + 1) ≡ held = ap (λ j. get_or assigned j nothing) back ∙ get_or_default assigned k nothing d within in
      let by_use = ((holds (k + 1) (omega arith) there).uses.each (get_or held.uses i u)).0 (subst (λ (h : Held). Contains h.uses (get_or held.uses i u)) (sym same) has) in
      slice_get_within locks (get_or held.uses i u).lock by_use.cell by_use.numbered

  module _ (work : Work) (count : work.count ≡ length messages) (costs : (m : ℕ) → IsNumber work m → work.cost m ≡ (message_of messages m).cost) where
    cell_at : (lock : ℕ) → lock < length locks → (cell : Cell) × (slice_get locks lock ≡ Some cell)
    cell_at lock low = let none : Cell = record { space = 0; index = 0 } in (get_or locks lock none, slice_get-get_or locks lock none low)

    -- each need of a cell is one of a lock
    pub cell_within : (cell : Cell) → ticks_locked layout.spaces messages assigned cell ≤ greatest_lock assigned work
    cell_within cell = elim (cases_order 0 (ticks_locked layout.spaces messages assigned cell)) [
      | inl none ↦ omega (arith, none)
      | inr (inr less) ↦ absurd (omega (arith, less))
      | inr (inl some) ↦
          let (lock, low, is) = numbered cell some in
          let all = map (lock_cost assigned work) (range_with_len 0 (length locks)) in
          let short : lock < length all = subst (λ n. lock < n) (sym (length-map-range_with_len (lock_cost assigned work) 0 (length locks))) low in
          let at : get_or all lock 0 ≡ lock_cost assigned work lock = get_or-map-range_with_len (lock_cost assigned work) 0 (length locks) lock lock 0 low (omega arith) in
          omega (arith, at, lock_is lock cell is work count costs, max_bounds greatest (λ x. x) refl (λ _ _. refl) all lock 0 short, greatest_is assigned work (length locks) locks_below)
    ]

    -- so the greatest of both is one
    pub locks_are : (found : Option CellUse) → IsMostOf (ticks_locked layout.spaces messages assigned) found → ticks_of found ≡ greatest_lock assigned work
    locks_are found most =
        let all = map (lock_cost assigned work) (range_with_len 0 (length locks)) in
        let within = max_least greatest (λ x. x) refl (λ _ _. refl) all 0 (ticks_of found)
        (λ i below.
        let low : i < length locks = subst (λ n. i < n) (length-map-range_with_len (lock_cost assigned work) 0 (length locks)) below in
        let at : get_or all i 0 ≡ lock_cost assigned work i = get_or-map-range_with_len (lock_cost assigned work) 0 (length locks) i i 0 low (omega arith) in
        let (cell, is) = cell_at i low in
        omega (arith, at, lock_is i cell is work count costs, below_most found most cell)) in
        omega (arith, within, above found most, greatest_is assigned work (length locks) locks_below)
      where
        below_most : (found : Option CellUse) → IsMostOf (ticks_locked layout.spaces messages assigned) found → (cell : Cell) → ticks_locked layout.spaces messages assigned cell ≤ ticks_of found
        below_most None none cell = omega (arith, none cell)
        below_most (Some one) most cell = most.most cell

        above : (found : Option CellUse) → IsMostOf (ticks_locked layout.spaces messages assigned) found → ticks_of found ≤ greatest_lock assigned work
        above None none = omega arith
        above (Some one) most = omega (arith, most.ticks, cell_within one.cell)

    -- the greatest of all numbers tells the cell
    module _ (bound : ℕ) (below : AreLocksBelow bound assigned) (peak : Peak) (is : IsPeak (lock_cost assigned work) 0 bound peak) where
      peak_is : peak.ticks ≡ greatest_lock assigned work
      peak_is = is.ticks ∙ greatest_is assigned work bound below

      pub none_locked : peak.ticks ≡ 0 → IsMostOf (ticks_locked layout.spaces messages assigned) None
      none_locked none = λ cell. omega (arith, cell_within cell, peak_is, none)

      module _ (some : 0 < peak.ticks) where
        used : list_any (uses_lock peak.at) assigned ≡ true
        used = elim (cases_Bool (list_any (uses_lock peak.at) assigned)) [
          | inl is_used ↦ is_used
          | inr unused ↦ absurd (omega (
            arith,
            some,
            (is.at some).2,
            cond-false (list_any (uses_lock peak.at) assigned)
                (sum_by (kept_cost assigned work peak.at) (numbers work) + greatest (map (shared_cost assigned work peak.at) (numbers work))) 0 unused,
          ))
        ]

        pub at_within : peak.at < length locks
        at_within =
            let (k, held, within, at, uses) = Any-from_list_any (uses_lock peak.at) assigned used in
            let (u, (i, short, here), same) = use_of peak.at held uses in
            let low = locks_below k held within i u (subst (λ (h : Held). i < length h.uses) (sym at) short) in
            let this : get_or (get_or assigned k held).uses i u ≡ u = ap (λ (h : Held). get_or h.uses i u) at ∙ here in
            omega (arith, low, same, ap (λ (v : LockUse). v.lock) this)

        pub most_locked : (cell : Cell) → slice_get locks peak.at ≡ Some cell → IsMostOf (ticks_locked layout.spaces messages assigned) (Some (record { cell = cell; ticks = peak.ticks }))
        most_locked cell here = record {
          some = some;
          ticks = sym (lock_is peak.at cell here work count costs) ∙ (is.at some).2;
          most = λ other. omega (arith, cell_within other, peak_is);
          first = λ other same apart. first_is other same apart;
        }
          where
            first_is : (other : Cell) → ticks_locked layout.spaces messages assigned other ≡ peak.ticks → is_cell cell other ≡ false → ComesBefore cell other
            first_is other same apart = elim (cases_before cell other) [
              | inl this ↦ absurd (let wrong : true ≡ false = sym (is_itself cell) ∙ ap (is_cell cell) this ∙ apart in cc)
              | inr (inl before) ↦ before
              | inr (inr after) ↦
                  let (lock, low, listed) = numbered other (omega (arith, some, same)) in
                  let cost = lock_is lock other listed work count costs in
                  let none : Cell = record { space = 0; index = 0 } in
                  let at_cell : get_or locks peak.at none ≡ cell = get_or_from_slice_get locks peak.at cell none here in
                  let at_other : get_or locks lock none ≡ other = get_or_from_slice_get locks lock other none listed in
                  elim (cases_order lock peak.at) [
                    | inl equal ↦ absurd (let wrong : true ≡ false = sym (is_itself cell) ∙ ap (is_cell cell) (sym at_cell ∙ ap (λ i. get_or locks i none) (sym equal) ∙ at_other) ∙ apart in cc)
                    | inr (inl sooner) ↦ absurd (let less = is.first lock (omega arith) sooner in omega (arith, less, cost, same))
                    | inr (inr later) ↦
                        let rises = Less-from_sorted cell_cmp locks peak.at lock none are.numbered.rising later low in
                        let less : cell_cmp cell other ≡ Less = subst (λ c. cell_cmp c other ≡ Less) at_cell (subst (λ c. cell_cmp (get_or locks peak.at none) c ≡ Less) at_other rises) in
                        absurd (not_both cell other less (before_less other cell after))
                  ]
            ]

-- two lists of the locks are equal
pub locks_same : (layout : Hierarchy) (messages : List Message) (one other : List Cell) → ListsLocks layout messages one → ListsLocks layout messages other → one ≡ other
locks_same layout messages one other first second =
    let R = λ (a : Cell) (b : Cell). cell_cmp a b ≡ Less in
    same_elements R not_both one other
    (λ i j d before within. Less-from_sorted cell_cmp one i j d first.rising before within)
    (λ i j d before within. Less-from_sorted cell_cmp other i j d second.rising before within)
    (λ cell has. (second.each cell).1 ((first.each cell).0 has))
    (λ cell has. (first.each cell).1 ((second.each cell).0 has))

-- the work of a plan's messages
module _ (messages : List Message) (timings : List Timing) (are : timings ≡ timings_of messages) where
  pub work_count : (work_of timings).count ≡ length messages
  work_count = ap length are ∙ length-timings_of messages

  pub work_costs : (m : ℕ) → IsNumber (work_of timings) m → (work_of timings).cost m ≡ (message_of messages m).cost
  work_costs m number =
      ap (λ ts. (work_of ts).cost m) are
      ∙ ap (λ (t : Timing). t.cost) (timing_is messages m (record { from = number.from; to = omega (arith, number.to, ap length are, length-timings_of messages) }))

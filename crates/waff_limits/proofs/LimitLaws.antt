-- What limits a workload, beside all plans.
use Rattle.std.proofs.Common.{◌≡◌, inl, inr, ℕ, suc, ◌-◌, ◌<◌, ◌≤◌, All, max, nat_lt, length, map, Option, Some, None, IfSome, get_or, refl, sym, ◌∙◌, ap, subst, arith}
use Rattle.std.specs.List.{range_with_len}
use Rattle.std.proofs.lemmas.Bool.{cases_Bool, ltb-false, ltb-true}
use Rattle.std.proofs.lemmas.List.{get_or_default}
use Rattle.waff_model.specs.Layout.{Hierarchy, IsCell}
use Rattle.waff_model.specs.Tree.{IsTree}
use Rattle.waff_model.specs.Versions.{has_clients}
use Rattle.waff_model.specs.declared.cell.Cell.{Cell}
use Rattle.waff_model.specs.declared.message.Version.{Version}
use Rattle.waff_model.specs.declared.message.Version.TheVariants.{V1, V2, V3, V4}
use Rattle.waff_assign.specs.Instance.{Instance}
use Rattle.waff_assign.specs.Order.{IsOrdered, affinity_of}
use Rattle.waff_assign.proofs.Knowing.{are_known}
use Rattle.waff_plan.specs.Apart.{AreApart}
use Rattle.waff_plan.specs.Bound.{IsWorkers}
use Rattle.waff_plan.specs.Instances.{served_first, work_of_instance}
use Rattle.waff_plan.specs.LowerBound.{ObeysInSomeOrder, earliest_finish, lower_bound_of, path_cost, share_in}
use Rattle.waff_plan.specs.Obeys.{EachRuns, IsLeast, Obeys}
use Rattle.waff_plan.specs.Peak.{IsPeak}
use Rattle.waff_plan.specs.Serving.{IsStartedBefore, served_before}
use Rattle.waff_plan.specs.Timetable.{AreTimings, client_work_of_messages, message_of, no_message, timings_of}
use Rattle.waff_plan.specs.TreeStarts.{TreeIsReached, tree_start}
use Rattle.waff_plan.specs.Work.{IsAmongFirst, IsNumber, Work, greatest, length_of, total_of}
use Rattle.waff_plan.specs.declared.peak.Peak.{Peak}
use Rattle.waff_plan.specs.declared.timing.Timing.{Timing}
use Rattle.waff_plan.proofs.ApartLaws.{apart_where_finished}
use Rattle.waff_plan.proofs.Chains.{least_is_shortest}
use Rattle.waff_plan.proofs.LowerBounds.{earliest_is, none_is_below}
use Rattle.waff_plan.proofs.ServingLemmas.{each_runs, least_started}
use Rattle.waff_plan.proofs.StartOrder.{served_apart, serving_obeys}
use Rattle.waff_plan.proofs.TimingLemmas.{are_timings, awaits_client, floor_alone, length-timings_of, timing_is, timings_alone}
use Rattle.waff_plan.proofs.Uniqueness.{same_length}
use Rattle.waff_figures.proofs.LeastLaws.{follows_in}
use Rattle.waff_limits.specs.Data.{ComesBefore, IsMost, IsMostOf}
use Rattle.waff_limits.specs.Locks.{ticks_locked, ticks_needed}
use Rattle.waff_limits.specs.Laws.{ClientsFinish, IsUnder, KeepsOrderWhere, LimitsAreLowerBound, LimitsAreOne, NoListsAddNothing, NoneIsBelowLimits, OrderIsNotBelow, OrderIsShortest, PathIsReached, StartsAtOnce, greatest_limit}
use Rattle.waff_limits.specs.Limits.{AreLimits, ticks_of}
use Rattle.waff_limits.specs.declared.data.CellUse.{CellUse}
use Rattle.waff_limits.specs.declared.limits.Limits.{Limits}
use Rattle.waff_limits.proofs.AfterLaws.{after_is_not_below, finish_same, peak_again}
use Rattle.waff_limits.proofs.Cells.{cases_cell, is_turned}
use Rattle.waff_limits.proofs.DataLaws.{data_bounds}
use Rattle.waff_limits.proofs.LimitLemmas.{most_is_cell}
use Rattle.waff_limits.proofs.LockLaws.{locks_are}
use Rattle.waff_limits.proofs.SharedCells.{needed_within, writes_below}
use Rattle.waff_limits.specs.Writes.{ticks_shared}
use Rattle.waff_assign.specs.Held.{AreKnown, AreUnlocked}

module _ (instance : Instance) (layout : Hierarchy) (under : IsUnder layout instance) where
  abbrev work : Work
  work = work_of_instance instance

  abbrev path : ℕ → ℕ
  path = path_cost instance.tree instance.assigned work

  is_tree : IsTree instance.tree
  is_tree = subst IsTree under.tree under.is_layout.tree

  count : length instance.assigned ≡ work.count
  count = under.assignment.count ∙ sym (length-timings_of instance.trace.messages)

  timings : AreTimings instance.trace.version (timings_of instance.trace.messages)
  timings = are_timings instance.trace under.is_trace

  runs : EachRuns work
  runs = each_runs instance.trace.version (timings_of instance.trace.messages) timings

  -- what needs a cell runs on a path, or uses a lock
  pub cell_below : (found locks : Option CellUse) → IsMostOf (ticks_needed layout.spaces instance.trace.messages) found
      → IsMostOf (ticks_locked layout.spaces instance.trace.messages instance.assigned) locks
      → ticks_of found ≤ max (greatest (map path (range_with_len 0 (length instance.tree)))) (ticks_of locks)
  cell_below None locks most locked = omega arith
  cell_below (Some one) locks most locked =
      let messages = instance.trace.messages in
      let lies : IsCell layout.spaces one.cell = most_is_cell layout.spaces instance.trace under.is_trace under.fits (ticks_needed layout.spaces messages)
      (λ cell some. omega (arith, some, needed_within layout.spaces messages cell)) (Some one) most in
      let bound = data_bounds layout.spaces layout messages instance.assigned under.is_layout under.assignment (λ cell is. is) locks locked one.cell lies in
      let here : ticks_needed layout.spaces messages one.cell ≤ max (greatest (map path (range_with_len 0 (length instance.tree)))) (ticks_of locks)
      = subst (λ tree. ticks_needed layout.spaces messages one.cell ≤ max (greatest (map (path_cost tree instance.assigned work) (range_with_len 0 (length tree)))) (ticks_of locks)) under.tree bound in
      omega (arith, here, most.ticks)

  costs : (m : ℕ) → IsNumber work m → work.cost m ≡ (message_of instance.trace.messages m).cost
  costs m number =
      ap (λ (t : Timing). t.cost)
      (timing_is instance.trace.messages m (record { from = number.from; to = subst (λ n. m ≤ n) (length-timings_of instance.trace.messages) number.to }))

  pub is_lower_bound : (workers : Option ℕ) (start : ℕ → ℕ) (limits : Limits) → AreLimits layout.spaces instance start limits
      → greatest_limit workers limits ≡ lower_bound_of workers instance.tree instance.assigned work
  is_lower_bound workers start limits are =
      let messages = instance.trace.messages in
      let share : share_in workers limits.total ≡ share_in workers (total_of work) = ap (share_in workers) are.total in
      let below = cell_below limits.cell limits.locks are.cell are.locks in
      let shared = writes_below layout.spaces messages limits.writes limits.cell are.writes are.cell in
      let listed : limits.client.ticks ≤ limits.after.ticks = after_is_not_below instance layout.spaces start limits are in
      let locks = locks_are layout messages instance.assigned under.assignment work (length-timings_of messages) costs limits.locks are.locks in
      omega (arith, share, below, shared, listed, locks, are.after.ticks, are.path.ticks)

  pub none_below : (workers : Option ℕ) (start other : ℕ → ℕ) (limits : Limits) → IfSome workers IsWorkers → AreLimits layout.spaces instance start limits
      → ObeysInSomeOrder instance.tree instance.assigned work workers other → greatest_limit workers limits ≤ length_of work other
  none_below workers start other limits known are obeys =
      subst (λ n. n ≤ length_of work other) (sym (is_lower_bound workers start limits are))
      (none_is_below workers instance.tree instance.assigned work is_tree count known (follows_in instance under.is_trace) other obeys)

  apart_by : (version : Version) (start : ℕ → ℕ) → Obeys (served_before version instance.tree instance.assigned work start) work start
      → AreApart (IsOrdered instance.tree instance.assigned) work start
  apart_by V1 start obeys = λ i j pair. apart_where_finished work start i j (obeys.ordered i j pair.ordered) pair.together
  apart_by V2 start obeys = λ i j pair. apart_where_finished work start i j (obeys.ordered i j pair.ordered) pair.together
  apart_by V3 start obeys = served_apart instance.tree instance.assigned work count runs start obeys
  apart_by V4 start obeys = served_apart instance.tree instance.assigned work count runs start obeys

  no_number : (k : ℕ) → None ≡ Some k → ⊥
  no_number k is = cc

  obeys_itself : (start : ℕ → ℕ) → Obeys (served_first instance start) work start → ObeysInSomeOrder instance.tree instance.assigned work None start
  obeys_itself start obeys = record {
    issued = obeys.issued;
    apart = apart_by instance.trace.version start obeys;
    within = λ k t is. absurd (no_number k is);
  }

  pub not_below : (start : ℕ → ℕ) (limits : Limits) → IsLeast (served_first instance start) work start → AreLimits layout.spaces instance start limits
      → greatest_limit None limits ≤ limits.order
  not_below start limits least are =
      subst (λ n. greatest_limit None limits ≤ n) (sym are.order) (none_below None start start limits tt are (obeys_itself start least.obeys))

  shortest_by : (version : Version) (start other : ℕ → ℕ) → AreTimings version (timings_of instance.trace.messages)
      → IsLeast (served_before version instance.tree instance.assigned work start) work start → KeepsOrderWhere (has_clients version) instance start other
      → length_of work start ≤ length_of work other
  shortest_by V1 start other are least keeps = least_is_shortest (IsOrdered instance.tree instance.assigned) work start other least keeps
  shortest_by V2 start other are least keeps = least_is_shortest (IsOrdered instance.tree instance.assigned) work start other least keeps
  shortest_by V3 start other are least keeps =
      least_is_shortest (IsStartedBefore instance.tree instance.assigned start) work start other
      (least_started instance.tree instance.assigned (timings_of instance.trace.messages) start (sym count) V3 are least)
      (serving_obeys instance.tree instance.assigned work count runs start other keeps)
  shortest_by V4 start other are least keeps =
      least_is_shortest (IsStartedBefore instance.tree instance.assigned start) work start other
      (least_started instance.tree instance.assigned (timings_of instance.trace.messages) start (sym count) V4 are least)
      (serving_obeys instance.tree instance.assigned work count runs start other keeps)

  pub shortest : (start other : ℕ → ℕ) (limits : Limits) → IsLeast (served_first instance start) work start → AreLimits layout.spaces instance start limits
      → KeepsOrderWhere (has_clients instance.trace.version) instance start other → limits.order ≤ length_of work other
  shortest start other limits least are keeps =
      subst (λ n. n ≤ length_of work other) (sym are.order) (shortest_by instance.trace.version start other timings least keeps)

  known : AreKnown instance.tree instance.assigned
  known =
      subst (λ tree. AreKnown tree instance.assigned) under.tree
      (are_known layout under.is_layout instance.trace instance.assigned under.is_trace under.fits under.assignment)

  -- where all messages may start at once
  module _ (unlocked : AreUnlocked instance.assigned) (free : All StartsAtOnce instance.trace.messages) where
    at_once : (m : ℕ) → IsAmongFirst (length instance.trace.messages) m → StartsAtOnce (message_of instance.trace.messages m)
    at_once m number = free (m - 1) no_message (omega (arith, number.from, number.to))

    no_floor : (m : ℕ) → IsNumber work m → work.floor m ≡ 0
    no_floor m number =
        let there : IsAmongFirst (length instance.trace.messages) m = subst (λ n. IsAmongFirst n m) (length-timings_of instance.trace.messages) number in
        let message = at_once m there in
        floor_alone instance.trace.messages m there message.no_client message.no_think ∙ message.no_release

    pub reached : TreeIsReached instance.tree instance.assigned work → (start : ℕ → ℕ) (limits : Limits) → AreLimits layout.spaces instance start limits
        → (other : ℕ → ℕ) × ObeysInSomeOrder instance.tree instance.assigned work None other × (length_of work other ≡ limits.path.ticks)
    reached law start limits are =
        let met = law is_tree count known unlocked
        (timings_alone instance.trace.messages (λ m number. let message = at_once m number in message.no_client)
        (λ m number. let message = at_once m number in message.no_list)) no_floor in
        (tree_start instance.tree instance.assigned work, met.0, met.1 ∙ sym are.path.ticks)

-- a peak is one
peak_of : ℕ → ℕ → Peak
peak_of at ticks = record { at = at; ticks = ticks }

same_peak : (one other : Peak) → one.at ≡ other.at → one.ticks ≡ other.ticks → one ≡ other
unfolding peak_of
same_peak one other ats ticks = ap (λ a. peak_of a one.ticks) ats ∙ ap (peak_of other.at) ticks

peak_is_one : (f : ℕ → ℕ) (from count : ℕ) (one other : Peak) → IsPeak f from count one → IsPeak f from count other → one ≡ other
peak_is_one f from count one other p q = same_peak one other ats ticks
  where
    ticks : one.ticks ≡ other.ticks
    ticks = p.ticks ∙ sym q.ticks

    ats : one.at ≡ other.at
    ats = elim (cases_Bool (nat_lt 0 one.ticks)) [
      | inl held ↦
          let some : 0 < one.ticks = ltb-true 0 one.ticks held in
          let here = p.at some in
          let there = q.at (omega (arith, some, ticks)) in
          elim (cases_Bool (nat_lt one.at other.at)) [
            | inl less ↦ absurd (let lt = q.first one.at here.0 (ltb-true one.at other.at less) in omega (arith, lt, here.2, ticks))
            | inr not ↦ elim (cases_Bool (nat_lt other.at one.at)) [
              | inl more ↦ absurd (let lt = p.first other.at there.0 (ltb-true other.at one.at more) in omega (arith, lt, there.2, ticks))
              | inr same ↦ omega (arith, ltb-false one.at other.at not, ltb-false other.at one.at same)
            ]
          ]
      | inr failed ↦
          let none : one.ticks ≡ 0 = omega (arith, ltb-false 0 one.ticks failed) in
          p.none none ∙ sym (q.none (sym ticks ∙ none))
    ]

-- so is the cell that is used longest
use_of : Cell → ℕ → CellUse
use_of cell ticks = record { cell = cell; ticks = ticks }

same_use : (one other : CellUse) → one.cell ≡ other.cell → one.ticks ≡ other.ticks → one ≡ other
unfolding use_of
same_use one other cells ticks = ap (λ c. use_of c one.ticks) cells ∙ ap (use_of other.cell) ticks

module _ (used : Cell → ℕ) where
  most_is_one : (one other : CellUse) → IsMost used one → IsMost used other → one ≡ other
  most_is_one one other p q = same_use one other cells ticks
    where
      ticks : one.ticks ≡ other.ticks
      ticks = omega (arith, p.ticks, q.ticks, p.most other.cell, q.most one.cell)

      cells : one.cell ≡ other.cell
      cells = elim (cases_cell one.cell other.cell) [
        | inl same ↦ sym same
        | inr not ↦
            let before : ComesBefore one.cell other.cell = p.first other.cell (q.ticks ∙ sym ticks) not in
            let after : ComesBefore other.cell one.cell = q.first one.cell (p.ticks ∙ ticks) (is_turned other.cell one.cell ∙ not) in
            absurd (omega (arith, before, after))
      ]

  pub most_of_is_one : (one other : Option CellUse) → IsMostOf used one → IsMostOf used other → one ≡ other
  most_of_is_one None None p q = refl
  most_of_is_one None (Some other) p q = absurd (omega (arith, p other.cell, q.ticks, q.some))
  most_of_is_one (Some one) None p q = absurd (omega (arith, q one.cell, p.ticks, p.some))
  most_of_is_one (Some one) (Some other) p q = ap Some (most_is_one one other p q)

limits_with : ℕ → Peak → Peak → Option CellUse → Option CellUse → Peak → Option CellUse → ℕ → Limits
limits_with total client after writes cell path locks order =
    record { total = total; client = client; after = after; writes = writes; cell = cell; path = path; locks = locks; order = order }

same_limits : (one other : Limits) → one.total ≡ other.total → one.client ≡ other.client → one.after ≡ other.after → one.writes ≡ other.writes → one.cell ≡ other.cell
    → one.path ≡ other.path → one.locks ≡ other.locks → one.order ≡ other.order → one ≡ other
unfolding limits_with
same_limits one other totals clients lists writes cells paths locks orders =
    ap (λ t. limits_with t one.client one.after one.writes one.cell one.path one.locks one.order) totals
    ∙ ap (λ c. limits_with other.total c one.after one.writes one.cell one.path one.locks one.order) clients
    ∙ ap (λ a. limits_with other.total other.client a one.writes one.cell one.path one.locks one.order) lists
    ∙ ap (λ c. limits_with other.total other.client other.after c one.cell one.path one.locks one.order) writes
    ∙ ap (λ c. limits_with other.total other.client other.after other.writes c one.path one.locks one.order) cells
    ∙ ap (λ p. limits_with other.total other.client other.after other.writes other.cell p one.locks one.order) paths
    ∙ ap (λ l. limits_with other.total other.client other.after other.writes other.cell other.path l one.order) locks
    ∙ ap (limits_with other.total other.client other.after other.writes other.cell other.path other.locks) orders

pub limits_are_one : (instance : Instance) → LimitsAreOne instance
limits_are_one instance spaces start other one another same p q =
    let work = work_of_instance instance in
    let messages = instance.trace.messages in
    same_limits one another (p.total ∙ sym q.total)
    (peak_is_one (earliest_finish (client_work_of_messages messages)) 1 work.count one.client another.client p.client q.client)
    (peak_is_one (earliest_finish work) 1 work.count one.after another.after p.after q.after)
    (most_of_is_one (ticks_shared messages) one.writes another.writes p.writes q.writes)
    (most_of_is_one (ticks_needed spaces messages) one.cell another.cell p.cell q.cell)
    (peak_is_one (path_cost instance.tree instance.assigned work) 0 (length instance.tree) one.path another.path p.path q.path)
    (most_of_is_one (ticks_locked spaces messages instance.assigned) one.locks another.locks p.locks q.locks)
    (p.order ∙ same_length work start other same ∙ sym q.order)

-- where all lists are empty, `after` is `clients`
pub no_lists_add_nothing : (instance : Instance) → NoListsAddNothing instance
no_lists_add_nothing instance spaces start limits are none =
    let clients = client_work_of_messages instance.trace.messages in
    let work = work_of_instance instance in
    let same = finish_same (timings_of instance.trace.messages) (awaits_client instance.trace.messages (λ m number. none (m - 1) no_message (omega (arith, number.from, number.to)))) in
    peak_is_one (earliest_finish work) 1 work.count limits.client limits.after
    (peak_again (earliest_finish clients) (earliest_finish work) same 1 work.count limits.client are.client) are.after

pub limits_are_lower_bound : (instance : Instance) → LimitsAreLowerBound instance
limits_are_lower_bound instance layout workers start limits under are = is_lower_bound instance layout under workers start limits are

pub none_is_below_limits : (instance : Instance) → NoneIsBelowLimits instance
none_is_below_limits instance layout workers start other limits under known are obeys = none_below instance layout under workers start other limits known are obeys

pub order_is_shortest : (instance : Instance) → OrderIsShortest instance
order_is_shortest instance layout start other limits under least are keeps = shortest instance layout under start other limits least are keeps

pub order_is_not_below : (instance : Instance) → OrderIsNotBelow instance
order_is_not_below instance layout start limits under least are = not_below instance layout under start limits least are

pub path_is_reached : (instance : Instance) → TreeIsReached instance.tree instance.assigned (work_of_instance instance) → PathIsReached instance
path_is_reached instance law layout start limits under are unlocked free = reached instance layout under unlocked free law start limits are

pub clients_finish : (work : Work) → ClientsFinish work
clients_finish work follows m number = earliest_is work follows m number

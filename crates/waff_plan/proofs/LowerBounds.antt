-- No plan that obeys is shorter than its share of the work, than what messages need that await one another, than what runs on one path
-- of affinities, or than what messages need of one lock.
use Rattle.std.proofs.Common.{◌≡◌, ℕ, zero, suc, ◌+◌, ◌-◌, ◌*◌, ◌^◌, ◌||◌, not, ◌<◌, ◌≤◌, ◌⊎◌, inl, inr, true, false, Bool, cond, eqb, List, [], ◌∷◌, ◌++◌, All, map, length, get_or, set, sum_by, count_by, Option, Some, None, IfSome, arith, refl, sym, ◌∙◌, ap, subst}
use Rattle.std.specs.List.{flat_map, list_any, range_with_len}
use Rattle.std.proofs.lemmas.Bool.{cases_Bool, cases_eq, cases_lt, and_parts, cond-true, cond-false, eq-eqb, eqb-true, false_from_ne_true, false≢true, not_from_true, or_cases, or_left, or_right}
use Rattle.std.proofs.lemmas.List.{get_or-map, get_or_past, get_or-set_other, get_or-set_same, length-map}
use Rattle.std.proofs.lemmas.List.FromFn.{get_or-map-range_with_len, length-map-range_with_len, map-range_with_len_more}
use Rattle.std.proofs.lemmas.List.Recursion.{max_least}
use Rattle.std.proofs.lemmas.List.Sums.{sum_by-cons}
use Rattle.std.proofs.lemmas.Option.{none-some, same_Some}
use Rattle.waff_model.specs.Tree.{IsRooted, IsTree, Node, AtOrAbove, parent_of}
use Rattle.waff_model.proofs.TreeLemmas.{above_child, above_parent, above_root, comparable, earlier, reflexive}
use Rattle.waff_assign.specs.Order.{IsOrdered, affinity_of, held_of}
use Rattle.waff_plan.specs.Apart.{AreApart}
use Rattle.waff_plan.specs.Bound.{IsWorkers}
use Rattle.waff_plan.specs.IssueLaws.{StartsIssued}
use Rattle.waff_plan.specs.LowerBound.{NoneIsBelow, earliest_finish, cost_by, cost_in, finish_by, greatest_lock, keeps_lock, kept_cost, lock_cost, of_parent, option_is, own_cost, path_cost, share_in, shared_cost, shares_lock, uses_lock}
use Rattle.waff_plan.specs.Obeys.{AwaitsEarlier}
use Rattle.waff_plan.specs.Timing.{IsTiming, no_timing, timing_of, work_by}
use Rattle.waff_plan.specs.declared.timing.Awaited.{Awaited}
use Rattle.waff_plan.specs.declared.timing.Timing.{Timing}
use Rattle.waff_plan.specs.Work.{Await, IsAwaited, IsNumber, Work, finish_of, gap_of, greatest, issue_after, length_of, numbers, total_of}
use Rattle.waff_plan.specs.Workers.{IsWorkerPlan, running, runs_at}
use Rattle.waff_plan.proofs.ApartLaws.{runs_from, runs_parts}
use Rattle.waff_plan.proofs.FollowLemmas.{gap_limit}
use Rattle.waff_plan.proofs.Holding.{floor-le-issue, issue_again, issue_sooner, issued_by}
use Rattle.waff_plan.proofs.LockUses.{cases_option, excludes_keeper, is_no_option, is_option, keeper_excludes, keepers_exclude, use_of}
use Rattle.waff_plan.proofs.Longest.{finish_of-le-length_of, length_of-le, sum_more}
use Rattle.waff_plan.proofs.Shares.{share_is_within}
use Rattle.waff_plan.proofs.Ticks.{sum_by-numbers-le, total_is_within_workers}
use Rattle.waff_assign.specs.Held.{ExcludeEachOther, Held, UsesLock}
use Rattle.waff_assign.specs.declared.held.LockUse.{LockUse}

-- a bound on each bounds the greatest
pub greatest_within : (f : ℕ → ℕ) (a n bound : ℕ) → ((m : ℕ) → a ≤ m → m < a + n → f m ≤ bound) → greatest (map f (range_with_len a n)) ≤ bound
greatest_within f a n bound h =
    max_least greatest (λ x. x) refl (λ _ _. refl) (map f (range_with_len a n)) 0 bound
    (λ i below.
    let short : i < n = subst (λ k. i < k) (length-map-range_with_len f a n) below in
    let at : get_or (map f (range_with_len a n)) i 0 ≡ f (a + i) = get_or-map-range_with_len f a n i (a + i) 0 short (omega arith) in
    subst (λ x. x ≤ bound) (sym at) (h (a + i) (omega arith) (omega arith)))

-- no order
abbrev Unordered : ℕ → ℕ → Type 0
Unordered i j = ⊥

-- the share of a worker
share_below : (workers : Option ℕ) (work : Work) (other : ℕ → ℕ) → IfSome workers IsWorkers → StartsIssued work other
    → ((k t : ℕ) → workers ≡ Some k → running work other t ≤ k) → share_in workers (total_of work) ≤ length_of work other
share_below None work other known issued within = omega arith
share_below (Some k) work other known issued within =
    let plan : IsWorkerPlan Unordered work k other = record {
      obeys = record { issued = issued; ordered = λ i j h. absurd h };
      within = λ t. within k t refl;
    } in
    share_is_within k (total_of work) (length_of work other) known.from (total_is_within_workers Unordered work k other plan)

-- what messages need that await each other
finish_within : (work : Work) (other : ℕ → ℕ) → AwaitsEarlier work → StartsIssued work other → (n m : ℕ) → IsNumber work m
    → finish_by work n m ≤ finish_of work other m
finish_within work other follows issued zero m number =
    omega (arith, floor-le-issue Unordered work other m, issued m number)
finish_within work other follows issued (suc n) m number =
    omega (
      arith,
      issue_sooner (finish_by work n) (finish_of work other) (work.floor m) (work.awaits m)
          (λ i awaited.
          let before = follows i m awaited in
          finish_within work other follows issued n i (record { from = before.from; to = omega (arith, before.earlier, before.to) })),
      issued m number,
    )

clients_below : (work : Work) (other : ℕ → ℕ) → AwaitsEarlier work → StartsIssued work other
    → greatest (map (earliest_finish work) (numbers work)) ≤ length_of work other
clients_below work other follows issued =
    greatest_within (earliest_finish work) 1 work.count (length_of work other)
    (λ m from below.
    let number : IsNumber work m = record { from = from; to = omega (arith, below) } in
    omega (arith, finish_within work other follows issued m m number, finish_of-le-length_of work other m number))

-- the sum of sums
sum_add : (f g : ℕ → ℕ) (xs : List ℕ) → sum_by (λ x. f x + g x) xs ≡ sum_by f xs + sum_by g xs
sum_add f g [] = refl
sum_add f g (x ∷ xs) =
    omega (arith, sum_add f g xs, sum_by-cons (λ y. f y + g y) x xs, sum_by-cons f x xs, sum_by-cons g x xs)

sum_none : (xs : List ℕ) → 0 ≡ sum_by (λ _. 0) xs
sum_none [] = refl
sum_none (x ∷ xs) = omega (arith, sum_none xs, sum_by-cons (λ _. 0) x xs)

-- one term of a sum
pub term_within : (f : ℕ → ℕ) (n r : ℕ) → 1 ≤ r → r ≤ n → f r ≤ sum_by f (range_with_len 1 n)
term_within f zero r from to = absurd (omega (arith, from, to))
term_within f (suc n) r from to =
    let next : n + 1 ≡ suc n = omega arith in
    let more : sum_by f (range_with_len 1 (suc n)) ≡ sum_by f (range_with_len 1 n) + f (suc n)
    = subst (λ k. sum_by f (range_with_len 1 k) ≡ sum_by f (range_with_len 1 n) + f k) next (sum_more f n) in
    elim (cases_eq r (suc n)) [
      | inl same ↦ omega (arith, more, ap f same)
      | inr other ↦ omega (arith, more, term_within f n r from (omega (arith, to, other)))
    ]

-- where at most one of the first n passes, at most one is counted
none_counted : (p : ℕ → Bool) (n : ℕ) → ((i : ℕ) → 1 ≤ i → i ≤ n → p i ≡ true → ⊥) → count_by p (range_with_len 1 n) ≡ 0
none_counted p zero none = refl
none_counted p (suc n) none =
    let here : cond {A = ℕ} (p (suc n)) 1 0 ≡ 0 = elim (cases_Bool (p (suc n))) [
      | inl passes ↦ absurd (none (suc n) (omega arith) (omega arith) passes)
      | inr fails ↦ cond-false (p (suc n)) 1 0 fails
    ] in
    let next : n + 1 ≡ suc n = omega arith in
    let more : count_by p (range_with_len 1 (suc n)) ≡ count_by p (range_with_len 1 n) + cond {A = ℕ} (p (suc n)) 1 0
    = subst (λ k. count_by p (range_with_len 1 k) ≡ count_by p (range_with_len 1 n) + cond {A = ℕ} (p k) 1 0) next (sum_more (λ x. cond (p x) 1 0) n) in
    omega (arith, none_counted p n (λ i from to. none i from (omega (arith, to))), here, more)

one_counted : (p : ℕ → Bool) (n : ℕ) → ((i j : ℕ) → 1 ≤ i → i < j → j ≤ n → p i ≡ true → p j ≡ true → ⊥) → count_by p (range_with_len 1 n) ≤ 1
one_counted p zero apart = omega arith
one_counted p (suc n) apart =
    let next : n + 1 ≡ suc n = omega arith in
    let more : count_by p (range_with_len 1 (suc n)) ≡ count_by p (range_with_len 1 n) + cond {A = ℕ} (p (suc n)) 1 0
    = subst (λ k. count_by p (range_with_len 1 k) ≡ count_by p (range_with_len 1 n) + cond {A = ℕ} (p k) 1 0) next (sum_more (λ x. cond (p x) 1 0) n) in
    elim (cases_Bool (p (suc n))) [
      | inl passes ↦
          let none = none_counted p n (λ i from to is. apart i (suc n) from (omega (arith, to)) (omega arith) is passes) in
          let here : cond {A = ℕ} (p (suc n)) 1 0 ≡ 1 = cond-true (p (suc n)) 1 0 passes in
          omega (arith, none, here, more)
      | inr fails ↦
          let old = one_counted p n (λ i j from less to. apart i j from less (omega (arith, to))) in
          let here : cond {A = ℕ} (p (suc n)) 1 0 ≡ 0 = cond-false (p (suc n)) 1 0 fails in
          omega (arith, old, here, more)
    ]

-- a cost in an affinity, or none
pub cost_in_here : (assigned : List Held) (work : Work) (a m : ℕ) → affinity_of assigned m ≡ Some a → cost_in assigned work a m ≡ work.cost m
cost_in_here assigned work a m same = cond-true (option_is a (affinity_of assigned m)) (work.cost m) 0 (is_option a (affinity_of assigned m) same)

pub cost_in_other : (assigned : List Held) (work : Work) (a m : ℕ) → (affinity_of assigned m ≡ Some a → ⊥) → cost_in assigned work a m ≡ 0
cost_in_other assigned work a m other = cond-false (option_is a (affinity_of assigned m)) (work.cost m) 0 (is_no_option a (affinity_of assigned m) other)

module _ (tree : List Node) (assigned : List Held) (work : Work) where
  abbrev own_part : ℕ → ℕ → ℕ
  own_part a m = cost_in assigned work a m

  -- the cost of message m, if it runs in affinity a or at most n steps above it
  abbrev part : ℕ → ℕ → ℕ → ℕ
  part zero a m = own_part a m
  part (suc n) a m = own_part a m + of_parent (λ p. part n p m) (parent_of tree a)

  -- message m runs in an affinity at or above a
  abbrev pub RunsOver : ℕ → ℕ → Type 0
  RunsOver a m = (b : ℕ) × (affinity_of assigned m ≡ Some b) × AtOrAbove tree b a

  part_here : (a m : ℕ) → affinity_of assigned m ≡ Some a → own_part a m ≡ work.cost m
  part_here a m same = cost_in_here assigned work a m same

  part_other : (a m : ℕ) → (affinity_of assigned m ≡ Some a → ⊥) → own_part a m ≡ 0
  part_other a m other = cost_in_other assigned work a m other

  above_itself : (a m : ℕ) → affinity_of assigned m ≡ Some a → RunsOver a m
  above_itself a m same = (a, same, reflexive tree a)

  over_child : (a p m : ℕ) → parent_of tree a ≡ Some p → RunsOver p m → RunsOver a m
  over_child a p m parent over = (over.0, over.1, above_child tree over.0 a p parent over.2)

  -- the costs in an affinity and above it, message by message
  parent_cost : (n : ℕ) (o : Option ℕ) → ((p : ℕ) → cost_by tree assigned work n p ≡ sum_by (λ m. part n p m) (numbers work))
      → of_parent (cost_by tree assigned work n) o ≡ sum_by (λ m. of_parent (λ p. part n p m) o) (numbers work)
  parent_cost n None each = sum_none (numbers work)
  parent_cost n (Some p) each = each p

  cost_is : (n a : ℕ) → cost_by tree assigned work n a ≡ sum_by (λ m. part n a m) (numbers work)
  cost_is zero a = refl
  cost_is (suc n) a =
      let above = parent_cost n (parent_of tree a) (λ p. cost_is n p) in
      let both = sum_add (own_part a) (λ m. of_parent (λ p. part n p m) (parent_of tree a)) (numbers work) in
      omega (arith, above, both)

  -- a message with a part runs in the affinity or above it
  parent_above : (n a m : ℕ) (o : Option ℕ) → parent_of tree a ≡ o → ((p : ℕ) → 0 < part n p m → RunsOver p m)
      → 0 < of_parent (λ p. part n p m) o → (p : ℕ) × (parent_of tree a ≡ Some p) × RunsOver p m
  parent_above n a m None is above some = absurd (omega (arith, some))
  parent_above n a m (Some p) is above some = (p, is, above p some)

  part_above : (n a m : ℕ) → 0 < part n a m → RunsOver a m
  part_above zero a m some = elim (cases_option a (affinity_of assigned m)) [
    | inl same ↦ above_itself a m same
    | inr other ↦ absurd (omega (arith, some, part_other a m other))
  ]
  part_above (suc n) a m some = elim (cases_option a (affinity_of assigned m)) [
    | inl same ↦ above_itself a m same
    | inr other ↦
        let found = parent_above n a m (parent_of tree a) refl (λ p. part_above n p m) (omega (arith, some, part_other a m other)) in
        over_child a found.0 m found.1 found.2
  ]

  -- and its part is its cost at most
  parent_part : (n m : ℕ) (o : Option ℕ) → ((p : ℕ) → part n p m ≤ work.cost m) → of_parent (λ p. part n p m) o ≤ work.cost m
  parent_part n m None below = omega arith
  parent_part n m (Some p) below = below p

  part_within : IsTree tree → (n a m : ℕ) → part n a m ≤ work.cost m
  part_within is zero a m = elim (cases_option a (affinity_of assigned m)) [
    | inl same ↦ omega (arith, part_here a m same)
    | inr other ↦ omega (arith, part_other a m other)
  ]
  part_within is (suc n) a m = elim (cases_option a (affinity_of assigned m)) [
    | inl same ↦ elim (cases_lt 0 (of_parent (λ p. part n p m) (parent_of tree a))) [
      | inl some ↦
          let found = parent_above n a m (parent_of tree a) refl (λ p. part_above n p m) some in
          let over = found.2 in
          let low = earlier tree is.rooted over.0 found.0 over.2 in
          let lower = is.rooted.earlier a found.0 found.1 in
          absurd (omega (arith, low, lower, same_Some over.0 a (sym over.1 ∙ same)))
      | inr none ↦ omega (arith, none, part_here a m same)
    ]
    | inr other ↦ omega (arith, part_other a m other, parent_part n m (parent_of tree a) (λ p. part_within is n p m))
  ]

  -- by enough steps its part is its cost
  parent_all : (n a m : ℕ) (o : Option ℕ) → parent_of tree a ≡ o → (affinity_of assigned m ≡ Some a → ⊥) → RunsOver a m
      → ((p : ℕ) → parent_of tree a ≡ Some p → RunsOver p m → work.cost m ≤ part n p m) → work.cost m ≤ of_parent (λ p. part n p m) o
  parent_all n a m None is other (b, runs, above) all = absurd (other (runs ∙ ap Some (above_root tree b a is above)))
  parent_all n a m (Some p) is other (b, runs, above) all =
      all p is (b, runs, above_parent tree b a p (λ same. other (runs ∙ ap Some same)) is above)

  part_all : IsTree tree → (n a m : ℕ) → a ≤ n → RunsOver a m → work.cost m ≤ part n a m
  part_all is zero a m few (b, runs, above) =
      let low = earlier tree is.rooted b a above in
      let same : b ≡ a = omega (arith, low, few) in
      omega (arith, part_here a m (runs ∙ ap Some same))
  part_all is (suc n) a m few above = elim (cases_option a (affinity_of assigned m)) [
    | inl same ↦ omega (arith, part_here a m same)
    | inr other ↦
        let high = parent_all n a m (parent_of tree a) refl other above
        (λ p parent at. let lower = is.rooted.earlier a p parent in part_all is n p m (omega (arith, lower, few)) at) in
        omega (arith, high)
  ]

  -- what messages that run in an affinity or above it cost in all is on its path
  pub within_path : IsTree tree → (a : ℕ) (f : ℕ → ℕ) → ((m : ℕ) → IsNumber work m → f m ≤ work.cost m)
      → ((m : ℕ) → IsNumber work m → 0 < f m → RunsOver a m) → sum_by f (numbers work) ≤ path_cost tree assigned work a
  within_path is a f within above =
      let each : (m : ℕ) → IsNumber work m → f m ≤ part a a m = λ m number. elim (cases_lt 0 (f m)) [
        | inl some ↦ omega (arith, within m number, part_all is a a m (omega arith) (above m number some))
        | inr none ↦ omega arith
      ] in
      omega (arith, sum_by-numbers-le work f (λ m. part a a m) each, cost_is a a)

  -- the messages in an affinity and above it, as work of its own
  abbrev path_work : ℕ → ℕ → Work
  path_work n a = record { count = work.count; cost = λ m. part n a m; floor = λ m. 0; awaits = λ m. [] }

  -- of them at most one runs at a tick
  path_running : IsTree tree → length assigned ≡ work.count → (other : ℕ → ℕ) → AreApart (IsOrdered tree assigned) work other → (n a t : ℕ)
      → running (path_work n a) other t ≤ 1
  path_running is long other apart n a t =
      one_counted (runs_at (path_work n a) other t) work.count (λ i j from less to i_runs j_runs.
      let one = runs_parts (path_work n a) other t i i_runs in
      let two = runs_parts (path_work n a) other t j j_runs in
      let i_part = part_within is n a i in
      let j_part = part_within is n a j in
      let i_over = part_above n a i (omega (arith, one.0, one.1)) in
      let j_over = part_above n a j (omega (arith, two.0, two.1)) in
      apart i j (record {
        ordered = record {
          from = from;
          earlier = less;
          to = omega (arith, to, long);
          excludes = inl (i_over.0, j_over.0, i_over.1, j_over.1, comparable tree i_over.0 j_over.0 a i_over.2 j_over.2);
        };
        together = (t, runs_from work other t i one.0 (omega (arith, one.1, i_part)), runs_from work other t j two.0 (omega (arith, two.1, j_part)));
      }))

  path_below : IsTree tree → length assigned ≡ work.count → (other : ℕ → ℕ) → AreApart (IsOrdered tree assigned) work other → (n a : ℕ)
      → cost_by tree assigned work n a ≤ length_of work other
  path_below is long other apart n a =
      let plan : IsWorkerPlan Unordered (path_work n a) 1 other = record {
        obeys = record { issued = λ m number. omega arith; ordered = λ i j h. absurd h };
        within = path_running is long other apart n a;
      } in
      let total = total_is_within_workers Unordered (path_work n a) 1 other plan in
      let shorter = length_of-le (path_work n a) other (length_of work other) (λ m number.
      let known : IsNumber work m = record { from = number.from; to = number.to } in
      omega (arith, part_within is n a m, finish_of-le-length_of work other m known)) in
      omega (arith, cost_is n a, total, shorter)

  pub paths_below : IsTree tree → length assigned ≡ work.count → (other : ℕ → ℕ) → AreApart (IsOrdered tree assigned) work other
      → greatest (map (path_cost tree assigned work) (range_with_len 0 (length tree))) ≤ length_of work other
  paths_below is long other apart =
      greatest_within (path_cost tree assigned work) 0 (length tree) (length_of work other)
      (λ a from below. path_below is long other apart a a)

-- messages each two of which exclude each other, as work of its own
module _ (tree : List Node) (assigned : List Held) (work : Work) (long : length assigned ≡ work.count) (other : ℕ → ℕ)
    (apart : AreApart (IsOrdered tree assigned) work other) where
  module _ (p : ℕ → Bool) (exclude : (i j : ℕ) → p i ≡ true → p j ≡ true → i < j → ExcludeEachOther tree (held_of assigned i) (held_of assigned j)) where
    abbrev some_cost : ℕ → ℕ
    some_cost m = cond {A = ℕ} (p m) (work.cost m) 0

    abbrev some_work : Work
    some_work = record { count = work.count; cost = some_cost; floor = λ m. 0; awaits = λ m. [] }

    some_within : (m : ℕ) → some_cost m ≤ work.cost m
    some_within m = elim (cases_Bool (p m)) [
      | inl is ↦ omega (arith, cond-true (p m) (work.cost m) 0 is)
      | inr not ↦ omega (arith, cond-false (p m) (work.cost m) 0 not)
    ]

    some_is : (m : ℕ) → 0 < some_cost m → p m ≡ true
    some_is m some = elim (cases_Bool (p m)) [
      | inl is ↦ is
      | inr not ↦ absurd (omega (arith, some, cond-false (p m) (work.cost m) 0 not))
    ]

    -- of them at most one runs at a tick
    some_running : (t : ℕ) → running some_work other t ≤ 1
    some_running t =
        one_counted (runs_at some_work other t) work.count (λ i j from less to i_runs j_runs.
        let one = runs_parts some_work other t i i_runs in
        let two = runs_parts some_work other t j j_runs in
        let i_part = some_within i in
        let j_part = some_within j in
        apart i j (record {
          ordered = record {
            from = from;
            earlier = less;
            to = omega (arith, to, long);
            excludes = exclude i j (some_is i (omega (arith, one.0, one.1))) (some_is j (omega (arith, two.0, two.1))) less;
          };
          together = (t, runs_from work other t i one.0 (omega (arith, one.1, i_part)), runs_from work other t j two.0 (omega (arith, two.1, j_part)));
        }))

    -- so no plan is shorter than all of them
    some_below : sum_by some_cost (numbers work) ≤ length_of work other
    some_below =
        let plan : IsWorkerPlan Unordered some_work 1 other = record {
          obeys = record { issued = λ m number. omega arith; ordered = λ i j h. absurd h };
          within = some_running;
        } in
        let total = total_is_within_workers Unordered some_work 1 other plan in
        let shorter = length_of-le some_work other (length_of work other) (λ m number.
        let known : IsNumber work m = record { from = number.from; to = number.to } in
        omega (arith, some_within m, finish_of-le-length_of work other m known)) in
        omega (arith, total, shorter)

  -- what keeps a lock, and one message that shares it
  module _ (lock : ℕ) where
    abbrev keeps : ℕ → Bool
    keeps m = keeps_lock lock (held_of assigned m)

    kept_below : sum_by (kept_cost assigned work lock) (numbers work) ≤ length_of work other
    kept_below = some_below keeps (λ i j one two less. keepers_exclude tree lock (held_of assigned i) (held_of assigned j) one two)

    module _ (r : ℕ) (number : IsNumber work r) (shares : shares_lock lock (held_of assigned r) ≡ true) where
      parts : (not (keeps r) ≡ true) × (uses_lock lock (held_of assigned r) ≡ true)
      parts = and_parts (not (keeps r)) (uses_lock lock (held_of assigned r)) shares

      uses : UsesLock (held_of assigned r) lock
      uses = use_of lock (held_of assigned r) parts.1

      abbrev with_one : ℕ → Bool
      with_one m = keeps m || eqb m r

      is_one : (m : ℕ) → with_one m ≡ true → (keeps m ≡ true) ⊎ (m ≡ r)
      is_one m is = elim (or_cases (keeps m) (eqb m r) is) [
        | inl one ↦ inl one
        | inr same ↦ inr (eqb-true m r same)
      ]

      excluding : (i j : ℕ) → with_one i ≡ true → with_one j ≡ true → i < j → ExcludeEachOther tree (held_of assigned i) (held_of assigned j)
      excluding i j one two less = elim (is_one i one) [
        | inl i_keeps ↦ elim (is_one j two) [
          | inl j_keeps ↦ keepers_exclude tree lock (held_of assigned i) (held_of assigned j) i_keeps j_keeps
          | inr j_is ↦ keeper_excludes tree lock (held_of assigned i) (held_of assigned j) i_keeps (subst (λ m. UsesLock (held_of assigned m) lock) (sym j_is) uses)
        ]
        | inr i_is ↦ elim (is_one j two) [
          | inl j_keeps ↦ excludes_keeper tree lock (held_of assigned i) (held_of assigned j) (subst (λ m. UsesLock (held_of assigned m) lock) (sym i_is) uses) j_keeps
          | inr j_is ↦ absurd (omega (arith, less, i_is, j_is))
        ]
      ]

      -- the costs with and without it
      abbrev own : ℕ → ℕ
      own m = cond {A = ℕ} (eqb m r) (work.cost m) 0

      both : (m : ℕ) → kept_cost assigned work lock m + own m ≤ some_cost with_one excluding m
      both m = elim (cases_Bool (keeps m)) [
        | inl one ↦
            let other_one : eqb m r ≡ false = false_from_ne_true (eqb m r) (λ same.
            let kept : keeps r ≡ true = subst (λ k. keeps k ≡ true) (eqb-true m r same) one in
            false≢true (sym (not_from_true (keeps r) kept) ∙ parts.0)) in
            omega (
              arith,
              cond-true (keeps m) (work.cost m) 0 one,
              cond-false (eqb m r) (work.cost m) 0 other_one,
              cond-true (with_one m) (work.cost m) 0 (or_left (keeps m) (eqb m r) one),
            )
        | inr not ↦ elim (cases_Bool (eqb m r)) [
          | inl same ↦ omega (
            arith,
            cond-false (keeps m) (work.cost m) 0 not,
            cond-true (eqb m r) (work.cost m) 0 same,
            cond-true (with_one m) (work.cost m) 0 (or_right (keeps m) (eqb m r) same),
          )
          | inr different ↦ omega (arith, cond-false (keeps m) (work.cost m) 0 not, cond-false (eqb m r) (work.cost m) 0 different)
        ]
      ]

      own_at : work.cost r ≤ sum_by own (numbers work)
      own_at = omega (arith, term_within own work.count r number.from number.to, cond-true (eqb r r) (work.cost r) 0 (eq-eqb r r refl))

      pub with_one_below : sum_by (kept_cost assigned work lock) (numbers work) + work.cost r ≤ length_of work other
      with_one_below =
          omega (
            arith,
            sum_add (kept_cost assigned work lock) own (numbers work),
            sum_by-numbers-le work (λ m. kept_cost assigned work lock m + own m) (some_cost with_one excluding) (λ m number. both m),
            some_below with_one excluding,
            own_at,
          )

    lock_within : lock_cost assigned work lock ≤ length_of work other
    lock_within =
        let kept = sum_by (kept_cost assigned work lock) (numbers work) in
        let shared = greatest (map (shared_cost assigned work lock) (numbers work)) in
        let below = kept_below in
        let most = greatest_within (shared_cost assigned work lock) 1 work.count (length_of work other - kept)
        (λ m from to.
        elim (cases_Bool (shares_lock lock (held_of assigned m))) [
          | inl shares ↦
              let one = with_one_below m (record { from = from; to = omega (arith, to) }) shares in
              omega (arith, one, cond-true (shares_lock lock (held_of assigned m)) (work.cost m) 0 shares)
          | inr not ↦ omega (arith, cond-false (shares_lock lock (held_of assigned m)) (work.cost m) 0 not)
        ]) in
        elim (cases_Bool (list_any (uses_lock lock) assigned)) [
          | inl used ↦ omega (arith, below, most, cond-true (list_any (uses_lock lock) assigned) (kept + shared) 0 used)
          | inr unused ↦ omega (arith, cond-false (list_any (uses_lock lock) assigned) (kept + shared) 0 unused)
        ]

  locks_below : greatest_lock assigned work ≤ length_of work other
  locks_below =
      let uses = flat_map (λ (held : Held). held.uses) assigned in
      max_least greatest (λ x. x) refl (λ _ _. refl) (map (λ (u : LockUse). lock_cost assigned work u.lock) uses) 0 (length_of work other)
      (λ i below.
      let short : i < length uses = subst (λ n. i < n) (length-map uses (λ (u : LockUse). lock_cost assigned work u.lock)) below in
      let u = get_or uses i (record { lock = 0; alone = false }) in
      let at : get_or (map (λ (v : LockUse). lock_cost assigned work v.lock) uses) i 0 ≡ lock_cost assigned work u.lock
      = get_or-map (λ (v : LockUse). lock_cost assigned work v.lock) uses i (record { lock = 0; alone = false }) 0 short in
      subst (λ x. x ≤ length_of work other) (sym at) (lock_within u.lock))

pub none_is_below : (workers : Option ℕ) (tree : List Node) (assigned : List Held) (work : Work) → NoneIsBelow workers tree assigned work
none_is_below workers tree assigned work is long known follows start obeys =
    omega (
      arith,
      share_below workers work start known obeys.issued obeys.within,
      clients_below work start follows obeys.issued,
      paths_below tree assigned work is long start obeys.apart,
      locks_below tree assigned work long start obeys.apart,
    )

-- what messages need that await each other, one after another
module _ (work : Work) (follows : AwaitsEarlier work) where
  -- the first message awaits none
  alone : (m : ℕ) → m ≤ 1 → (awaits : List Await) → work.awaits m ≡ awaits → awaits ≡ []
  alone m first [] is = refl
  alone m first (a ∷ rest) is =
      let before = follows a.message m (subst (λ x. IsAwaited x a.message) (sym is) (inl refl)) in
      absurd (omega (arith, first, before.from, before.earlier))

  by_floor : (n m : ℕ) → m ≤ 1 → finish_by work n m ≡ work.floor m + work.cost m
  by_floor zero m first = refl
  by_floor (suc n) m first = ap (λ awaits. issue_after (finish_by work n) (work.floor m) awaits + work.cost m) (alone m first (work.awaits m) refl)

  enough : (n k m : ℕ) → m ≤ n + 1 → m ≤ k + 1 → finish_by work n m ≡ finish_by work k m
  enough zero zero m few also = refl
  enough zero (suc k) m few also = sym (by_floor (suc k) m (omega (arith, few)))
  enough (suc n) zero m few also = by_floor (suc n) m (omega (arith, also))
  enough (suc n) (suc k) m few also =
      ap (λ issue. issue + work.cost m)
      (issue_again (finish_by work n) (finish_by work k) (work.floor m) (work.awaits m)
      (λ i awaited. let before = follows i m awaited in enough n k i (omega (arith, before.earlier, few)) (omega (arith, before.earlier, also))))

  -- by the messages that it awaits
  pub earliest_is : (m : ℕ) → IsNumber work m → earliest_finish work m ≡ issue_after (earliest_finish work) (work.floor m) (work.awaits m) + work.cost m
  earliest_is zero number = absurd (omega (arith, number.from))
  earliest_is (suc k) number =
      ap (λ issue. issue + work.cost (suc k))
      (issue_again (finish_by work k) (earliest_finish work) (work.floor (suc k)) (work.awaits (suc k))
      (λ i awaited. let before = follows i (suc k) awaited in enough k i i (omega (arith, before.earlier)) (omega arith)))

-- the costs in an affinity and above it, by those of its parent
module _ (tree : List Node) (assigned : List Held) (work : Work) (rooted : IsRooted tree) where
  same_parent : (g h : ℕ → ℕ) (o : Option ℕ) → ((p : ℕ) → o ≡ Some p → g p ≡ h p) → of_parent g o ≡ of_parent h o
  same_parent g h None same = refl
  same_parent g h (Some p) same = same p refl

  root_alone : (a : ℕ) (o : Option ℕ) → a ≤ 0 → parent_of tree a ≡ o → o ≡ None
  root_alone a None first is = refl
  root_alone a (Some p) first is = absurd (omega (arith, rooted.earlier a p is, first))

  steps_enough : (n k a : ℕ) → a ≤ n → a ≤ k → cost_by tree assigned work n a ≡ cost_by tree assigned work k a
  steps_enough zero zero a few also = refl
  steps_enough zero (suc k) a few also =
      let none : of_parent (cost_by tree assigned work k) (parent_of tree a) ≡ 0
      = ap (of_parent (cost_by tree assigned work k)) (root_alone a (parent_of tree a) few refl) in
      omega (arith, none)
  steps_enough (suc n) zero a few also =
      let none : of_parent (cost_by tree assigned work n) (parent_of tree a) ≡ 0
      = ap (of_parent (cost_by tree assigned work n)) (root_alone a (parent_of tree a) also refl) in
      omega (arith, none)
  steps_enough (suc n) (suc k) a few also =
      ap (λ above. own_cost assigned work a + above)
      (same_parent (cost_by tree assigned work n) (cost_by tree assigned work k) (parent_of tree a)
      (λ p is. let lower = rooted.earlier a p is in steps_enough n k p (omega (arith, lower, few)) (omega (arith, lower, also))))

  pub path_is : (a : ℕ) → path_cost tree assigned work a ≡ own_cost assigned work a + of_parent (path_cost tree assigned work) (parent_of tree a)
  path_is zero =
      let none : of_parent (path_cost tree assigned work) (parent_of tree 0) ≡ 0 = ap (of_parent (path_cost tree assigned work)) rooted.root in
      omega (arith, none)
  path_is (suc k) =
      ap (λ above. own_cost assigned work (suc k) + above)
      (same_parent (cost_by tree assigned work k) (path_cost tree assigned work) (parent_of tree (suc k))
      (λ p is. let lower = rooted.earlier (suc k) p is in steps_enough k p p (omega (arith, lower)) (omega arith)))

-- neither is longer than all the work
pub path_within : (tree : List Node) (assigned : List Held) (work : Work) → IsTree tree → (a : ℕ) → path_cost tree assigned work a ≤ total_of work
path_within tree assigned work is a =
    let parts = sum_by-numbers-le work (λ m. part tree assigned work a a m) work.cost (λ m number. part_within tree assigned work is a a m) in
    omega (arith, cost_is tree assigned work a a, parts)

-- work within limits: floors, gaps and costs
abbrev pub AreLimits : Work → Type 0
AreLimits work = (m : ℕ) → IsNumber work m → (work.floor m ≤ 2 ^ 30) × ((i : ℕ) → gap_of work i m ≤ 2 ^ 24) × (work.cost m ≤ 2 ^ 24)

-- what messages need that await each other is small
pub finish_small : (work : Work) → AwaitsEarlier work → AreLimits work → (n m : ℕ) → IsNumber work m → finish_by work n m ≤ 2 ^ 30 + m * 2 ^ 25
finish_small work follows limits zero m number = let limit = limits m number in omega (arith, limit.0, limit.2, number.from)
finish_small work follows limits (suc n) m number =
    let limit = limits m number in
    let issued = issued_by (finish_by work n) (work.floor m) (2 ^ 30 + (m - 1) * 2 ^ 25 + 2 ^ 24) (work.awaits m) (omega (arith, limit.0))
    (λ i awaited.
    let before = follows i m awaited in
    let known : IsNumber work i = record { from = before.from; to = omega (arith, before.earlier, before.to) } in
    omega (arith, finish_small work follows limits n i known, limit.1 i, before.earlier)) in
    omega (arith, issued, limit.2, number.from)

-- one more sum in its place, and one fewer of those that wait
pub done_more : (f : ℕ → ℕ) (costs : List ℕ) (a cost : ℕ) → a < length costs → cost ≡ f a → ((p : ℕ) → p < a → get_or costs p 0 ≡ f p)
    → (p : ℕ) → p < a + 1 → get_or (set costs a cost) p 0 ≡ f p
done_more f costs a cost within is done p lt = elim (cases_eq p a) [
  | inl same ↦ ap (λ x. get_or (set costs a cost) x 0) same ∙ get_or-set_same costs a cost 0 within ∙ is ∙ ap f (sym same)
  | inr other ↦ get_or-set_other costs a p cost 0 other ∙ done p (omega (arith, lt, other))
]

pub rest_fewer : (g : ℕ → ℕ) (costs : List ℕ) (a cost n : ℕ) → ((p : ℕ) → a ≤ p → p < n → get_or costs p 0 ≡ g p)
    → (p : ℕ) → a + 1 ≤ p → p < n → get_or (set costs a cost) p 0 ≡ g p
rest_fewer g costs a cost n rest p from to =
    get_or-set_other costs a p cost 0 (λ same. omega (arith, same, from)) ∙ rest p (omega (arith, from)) to

-- a sum up to a message
sum_to_this : (f : ℕ → ℕ) (n : ℕ) → 1 ≤ n → sum_by f (range_with_len 1 (n + 1 - 1)) ≡ sum_by f (range_with_len 1 (n - 1)) + f n
sum_to_this f n from =
    let this : n - 1 + 1 ≡ n = omega (arith, from) in
    let next : n - 1 + 1 ≡ n + 1 - 1 = omega (arith, from) in
    ap (λ k. sum_by f (range_with_len 1 k)) (sym next) ∙ sum_more f (n - 1) ∙ ap (λ x. sum_by f (range_with_len 1 (n - 1)) + f x) this

-- the cost of one more message
pub own_more : (assigned : List Held) (work : Work) (n a now : ℕ) (costs : List ℕ) → 1 ≤ n → affinity_of assigned n ≡ Some a → a < length costs
    → ((b : ℕ) → b < length costs → get_or costs b 0 ≡ sum_by (cost_in assigned work b) (range_with_len 1 (n - 1)))
    → now ≡ get_or costs a 0 + work.cost n
    → (b : ℕ) → b < length costs → get_or (set costs a now) b 0 ≡ sum_by (cost_in assigned work b) (range_with_len 1 (n + 1 - 1))
own_more assigned work n a now costs from here within so_far is b there =
    let whole = sum_to_this (cost_in assigned work b) n from in
    elim (cases_eq b a) [
      | inl same ↦
          let put : get_or (set costs a now) b 0 ≡ now = ap (λ x. get_or (set costs a now) x 0) same ∙ get_or-set_same costs a now 0 within in
          let old : get_or costs a 0 ≡ sum_by (cost_in assigned work b) (range_with_len 1 (n - 1)) = ap (λ x. get_or costs x 0) (sym same) ∙ so_far b there in
          omega (arith, put, is, old, whole, cost_in_here assigned work b n (here ∙ ap Some (sym same)))
      | inr other ↦
          let kept : get_or (set costs a now) b 0 ≡ get_or costs b 0 = get_or-set_other costs a b now 0 other in
          omega (arith, kept, so_far b there, whole, cost_in_other assigned work b n (λ same. other (same_Some b a (sym same ∙ here))))
    ]

-- a message of no affinity adds nothing
pub own_no_more : (assigned : List Held) (work : Work) (n : ℕ) (costs : List ℕ) → 1 ≤ n → affinity_of assigned n ≡ None
    → ((b : ℕ) → b < length costs → get_or costs b 0 ≡ sum_by (cost_in assigned work b) (range_with_len 1 (n - 1)))
    → (b : ℕ) → b < length costs → get_or costs b 0 ≡ sum_by (cost_in assigned work b) (range_with_len 1 (n + 1 - 1))
own_no_more assigned work n costs from none so_far b there =
    let whole = sum_to_this (cost_in assigned work b) n from in
    omega (arith, so_far b there, whole, cost_in_other assigned work b n (λ same. none-some b (sym none ∙ same)))

-- and is small
pub small_more : (costs : List ℕ) (n a now cost : ℕ) → 1 ≤ n → a < length costs → ((b : ℕ) → b < length costs → get_or costs b 0 ≤ 2 ^ 32 * (n - 1))
    → now ≡ get_or costs a 0 + cost → cost < 2 ^ 32 → (b : ℕ) → b < length costs → get_or (set costs a now) b 0 ≤ 2 ^ 32 * (n + 1 - 1)
small_more costs n a now cost from within so_far is small b there = elim (cases_eq b a) [
  | inl same ↦
      let put : get_or (set costs a now) b 0 ≡ now = ap (λ x. get_or (set costs a now) x 0) same ∙ get_or-set_same costs a now 0 within in
      omega (arith, put, is, so_far a within, small, from)
  | inr other ↦ omega (arith, get_or-set_other costs a b now 0 other, so_far b there, from)
]

-- the timings of messages are small
pub timing_limits : (awaited : Awaited) (timings : List Timing) → All IsTiming timings → AreLimits (work_by awaited timings)
timing_limits awaited timings small m number =
    let timing = small (m - 1) no_timing (omega (arith, number.from, number.to)) in
    let at = timing_of timings m in (
      omega (arith, timing.floor),
      (λ i. let within = gap_limit awaited at i timing in omega (arith, within)),
      omega (arith, timing.cost),
    )

-- the finishes of the first messages
module _ (work : Work) (finishes : List ℕ) (are : finishes ≡ map (earliest_finish work) (range_with_len 1 (length finishes))) (few : length finishes ≤ work.count) where
  pub finish_at : (i : ℕ) → i < length finishes → get_or finishes i 0 ≡ earliest_finish work (i + 1)
  finish_at i within =
      ap (λ xs. get_or xs i 0) are ∙ get_or-map-range_with_len (earliest_finish work) 1 (length finishes) i (i + 1) 0 within (omega arith)

  pub each_small : AwaitsEarlier work → AreLimits work → (i : ℕ) → get_or finishes i 0 ≤ 2 ^ 30 + length finishes * 2 ^ 25
  each_small follows limits i = elim (cases_lt i (length finishes)) [
    | inl within ↦
        let number : IsNumber work (i + 1) = record { from = omega arith; to = omega (arith, within, few) } in
        omega (arith, finish_at i within, finish_small work follows limits (i + 1) (i + 1) number, within)
    | inr past ↦ omega (arith, get_or_past finishes i 0 past)
  ]

-- one more finish
pub finishes_more : (work : Work) (n finish : ℕ) (old new : List ℕ) → 1 ≤ n → old ≡ map (earliest_finish work) (range_with_len 1 (n - 1)) → finish ≡ earliest_finish work n
    → new ≡ old ++ finish ∷ [] → new ≡ map (earliest_finish work) (range_with_len 1 (n + 1 - 1))
finishes_more work n finish old new from so_far is more =
    let next : n + 1 - 1 ≡ n - 1 + 1 = omega (arith, from) in
    rw (more, is, so_far, next) (sym (map-range_with_len_more (earliest_finish work) 1 (n - 1) n (omega (arith, from))))

pub finishes_count : (work : Work) (n : ℕ) (finishes : List ℕ) → finishes ≡ map (earliest_finish work) (range_with_len 1 (n - 1)) → length finishes ≡ n - 1
finishes_count work n finishes are = ap length are ∙ length-map-range_with_len (earliest_finish work) 1 (n - 1)

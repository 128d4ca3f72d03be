-- The starts that a tree of affinities allows obey, and are as long as the longest path.
use Rattle.std.proofs.Common.{◌≡◌, ◌⊎◌, inl, inr, ℕ, zero, suc, ◌+◌, ◌-◌, ◌<◌, ◌≤◌, List, [], length, map, get_or, sum_by, Option, Some, None, refl, sym, ◌∙◌, ap, subst, arith}
use Rattle.std.specs.Prelude.{option_map, unwrap_or}
use Rattle.std.specs.List.{range_with_len}
use Rattle.std.proofs.lemmas.Bool.{cases_eq}
use Rattle.std.proofs.lemmas.List.FromFn.{get_or-map-range_with_len, length-map-range_with_len}
use Rattle.std.proofs.lemmas.List.Recursion.{max_bounds}
use Rattle.std.proofs.lemmas.Option.{none-some}
use Rattle.waff_model.specs.Tree.{AtOrAbove, IsTree, Leads, Node, parent_of}
use Rattle.waff_model.proofs.TreeLemmas.{above_parent, above_root}
use Rattle.waff_assign.proofs.Climbs.{root_above}
use Rattle.waff_assign.specs.Order.{IsOrdered, affinity_of, held_of}
use Rattle.waff_plan.specs.Apart.{AreApart}
use Rattle.waff_plan.specs.LowerBound.{ObeysInSomeOrder, cost_in, of_parent, path_cost}
use Rattle.waff_plan.specs.Obeys.{AwaitsNone}
use Rattle.waff_plan.specs.TreeStarts.{TreeIsReached, cost_before, start_in, tree_start}
use Rattle.waff_plan.specs.Work.{IsNumber, Work, finish_of, greatest, length_of}
use Rattle.waff_plan.proofs.ApartLaws.{apart_where_finished, turned}
use Rattle.waff_plan.proofs.Longest.{length_of-le, sum_more}
use Rattle.waff_plan.proofs.LowerBounds.{cost_in_here, path_is, paths_below}
use Rattle.waff_plan.proofs.NoClients.{issue_is_floor}
use Rattle.waff_assign.specs.Held.{AffinitiesExclude, AreKnown, AreUnlocked, ExcludeEachOther, Held, IsHeldWithin, UsesLock, nothing}

-- fewer of the first numbers sum up to less
sum_to : (f : ℕ → ℕ) (k n : ℕ) → k ≤ n → sum_by f (range_with_len 1 k) ≤ sum_by f (range_with_len 1 n)
sum_to f k zero few = let none : k ≡ 0 = omega (arith, few) in subst (λ j. sum_by f (range_with_len 1 j) ≤ sum_by f (range_with_len 1 0)) (sym none) (omega arith)
sum_to f k (suc n) few = elim (cases_eq k (suc n)) [
  | inl all ↦ subst (λ j. sum_by f (range_with_len 1 j) ≤ sum_by f (range_with_len 1 (suc n))) (sym all) (omega arith)
  | inr less ↦
      let next : n + 1 ≡ suc n = omega arith in
      let more = subst (λ j. sum_by f (range_with_len 1 j) ≡ sum_by f (range_with_len 1 n) + f (n + 1)) next (sum_more f n) in
      omega (arith, sum_to f k n (omega (arith, few, less)), more)
]

module _ (tree : List Node) (assigned : List Held) (work : Work) (is : IsTree tree) where
  abbrev path : ℕ → ℕ
  path = path_cost tree assigned work

  abbrev start : ℕ → ℕ
  start = tree_start tree assigned work

  abbrev a_of : ℕ → Option ℕ
  a_of = affinity_of assigned

  -- a path is no shorter than that of an affinity above
  path_on : (n a b : ℕ) → Leads tree n a b → path a ≤ path b
  path_on zero a b same = subst (λ x. path a ≤ path x) same (omega arith)
  path_on (suc n) a b leads =
      let above : of_parent path (parent_of tree b) ≡ path leads.0 = ap (of_parent path) leads.1 in
      omega (arith, path_on n a leads.0 leads.2, path_is tree assigned work is.rooted b, above)

  -- a message starts as its affinity says
  start_is : (m a : ℕ) → a_of m ≡ Some a → start m ≡ start_in tree assigned work m a
  start_is m a runs = ap (λ o. unwrap_or (option_map (start_in tree assigned work m) o) 0) runs

  -- the messages of an affinity one after another
  in_turn : (i j a : ℕ) → 1 ≤ i → i < j → a_of i ≡ Some a → a_of j ≡ Some a → finish_of work start i ≤ start j
  in_turn i j a from less runs_i runs_j =
      let here : cost_in assigned work a i ≡ work.cost i = cost_in_here assigned work a i runs_i in
      let back : i - 1 + 1 ≡ i = omega (arith, from) in
      let more : sum_by (cost_in assigned work a) (range_with_len 1 i) ≡ cost_before assigned work a i + cost_in assigned work a i
      = subst (λ k. sum_by (cost_in assigned work a) (range_with_len 1 k) ≡ cost_before assigned work a i + cost_in assigned work a k) back (sum_more (cost_in assigned work a) (i - 1)) in
      omega (arith, sum_to (cost_in assigned work a) i (j - 1) (omega (arith, less)), more, here, start_is i a runs_i, start_is j a runs_j)

  -- within the costs of its affinity and of those above it
  within_own : (m a : ℕ) → IsNumber work m → a_of m ≡ Some a → finish_of work start m ≤ path a
  within_own m a number runs =
      let here : cost_in assigned work a m ≡ work.cost m = cost_in_here assigned work a m runs in
      let back : m - 1 + 1 ≡ m = omega (arith, number.from) in
      let more : sum_by (cost_in assigned work a) (range_with_len 1 m) ≡ cost_before assigned work a m + cost_in assigned work a m
      = subst (λ k. sum_by (cost_in assigned work a) (range_with_len 1 k) ≡ cost_before assigned work a m + cost_in assigned work a k) back (sum_more (cost_in assigned work a) (m - 1)) in
      omega (arith, sum_to (cost_in assigned work a) m work.count number.to, more, here, path_is tree assigned work is.rooted a, start_is m a runs)

  -- those of an affinity after all above it
  after_above : (i j a b : ℕ) → IsNumber work i → a_of i ≡ Some a → a_of j ≡ Some b → (a ≡ b → ⊥) → AtOrAbove tree a b → finish_of work start i ≤ start j
  after_above i j a b number runs_i runs_j other above = after (parent_of tree b) refl
    where
      after : (o : Option ℕ) → parent_of tree b ≡ o → finish_of work start i ≤ start j
      after None root = absurd (other (above_root tree a b root above))
      after (Some p) parent =
          let high = above_parent tree a b p other parent above in
          let base : of_parent path (parent_of tree b) ≡ path p = ap (of_parent path) parent in
          omega (arith, within_own i a number runs_i, path_on high.0 a p high.1, base, start_is j b runs_j)

  -- two whose affinities exclude each other
  apart_by : (i j : ℕ) → IsNumber work i → IsNumber work j → i < j → AffinitiesExclude tree (held_of assigned i) (held_of assigned j)
      → (finish_of work start i ≤ start j) ⊎ (finish_of work start j ≤ start i)
  apart_by i j one two less (a, b, runs_i, runs_j, exclude) = elim (cases_eq a b) [
    | inl same ↦ inl (in_turn i j b one.from less (runs_i ∙ ap Some same) runs_j)
    | inr other ↦ elim exclude [
      | inl above ↦ inl (after_above i j a b one runs_i runs_j other above)
      | inr below ↦ inr (after_above j i b a two runs_j runs_i (λ same. other (sym same)) below)
    ]
  ]

  module _ (known : AreKnown tree assigned) (unlocked : AreUnlocked assigned) (long : length assigned ≡ work.count) where
    holds : (m : ℕ) → IsNumber work m → IsHeldWithin (length tree) (held_of assigned m)
    holds m number = known (m - 1) nothing (omega (arith, number.from, number.to, long))

    no_uses : (m : ℕ) → IsNumber work m → (held_of assigned m).uses ≡ []
    no_uses m number = unlocked (m - 1) nothing (omega (arith, number.from, number.to, long))

    -- each has an affinity
    runs_in : (m : ℕ) → IsNumber work m → (a : ℕ) × (a_of m ≡ Some a) × (a < length tree)
    runs_in m number = some (a_of m) refl
      where
        some : (o : Option ℕ) → a_of m ≡ o → (a : ℕ) × (a_of m ≡ Some a) × (a < length tree)
        some None none =
            let no : length (held_of assigned m).uses ≡ 0 = ap length (no_uses m number) in
            absurd (omega (arith, (holds m number).some none, no))
        some (Some a) runs = (a, runs, (holds m number).affinity a runs)

    -- no two contend for a lock
    free : (m lock : ℕ) → IsNumber work m → UsesLock (held_of assigned m) lock → ⊥
    free m lock number (u, has, is_lock) =
        let none : length (held_of assigned m).uses ≡ 0 = ap length (no_uses m number) in
        absurd (omega (arith, has.1, none))

    by_affinities : (i j : ℕ) → IsNumber work i → IsNumber work j → ExcludeEachOther tree (held_of assigned i) (held_of assigned j)
        → AffinitiesExclude tree (held_of assigned i) (held_of assigned j)
    by_affinities i j one two (inl exclude) = exclude
    by_affinities i j one two (inr (inl (inl root))) =
        let other = runs_in j two in
        (0, other.0, root, other.1, inl (root_above tree is other.0 other.2))
    by_affinities i j one two (inr (inl (inr root))) =
        let other = runs_in i one in
        (other.0, 0, other.1, root, inr (root_above tree is other.0 other.2))
    by_affinities i j one two (inr (inr (lock, inl (alone, uses)))) = absurd (free j lock two uses)
    by_affinities i j one two (inr (inr (lock, inr (uses, alone)))) = absurd (free i lock one uses)

    apart : AreApart (IsOrdered tree assigned) work start
    apart i j pair =
        let o = pair.ordered in
        let one : IsNumber work i = record { from = o.from; to = omega (arith, o.earlier, o.to, long) } in
        let two : IsNumber work j = record { from = omega (arith, o.from, o.earlier); to = omega (arith, o.to, long) } in
        elim (apart_by i j one two o.earlier (by_affinities i j one two o.excludes)) [
          | inl first ↦ apart_where_finished work start i j first pair.together
          | inr second ↦ apart_where_finished work start j i second (turned work start i j pair.together)
        ]

    obeys : AwaitsNone work → ((m : ℕ) → IsNumber work m → work.floor m ≡ 0) → ObeysInSomeOrder tree assigned work None start
    obeys none free = record {
      issued = λ m number. omega (arith, issue_is_floor work none start m, free m number);
      apart = apart;
      within = λ k t some. absurd (none-some k some);
    }

    as_long : length_of work start ≡ greatest (map path (range_with_len 0 (length tree)))
    as_long =
        let costs = map path (range_with_len 0 (length tree)) in
        let most = length_of-le work start (greatest costs) (λ m number.
        let runs = runs_in m number in
        let a = runs.0 in
        let short : a < length costs = subst (λ n. a < n) (sym (length-map-range_with_len path 0 (length tree))) runs.2 in
        let at : get_or costs a 0 ≡ path a = get_or-map-range_with_len path 0 (length tree) a a 0 runs.2 (omega arith) in
        omega (arith, within_own m a number runs.1, at, max_bounds greatest (λ x. x) refl (λ _ _. refl) costs a 0 short)) in
        let least = paths_below tree assigned work is long start apart in
        omega (arith, most, least)

pub tree_is_reached : (tree : List Node) (assigned : List Held) (work : Work) → TreeIsReached tree assigned work
tree_is_reached tree assigned work is long known unlocked none free =
    (obeys tree assigned work is known unlocked long none free, as_long tree assigned work is known unlocked long)

-- Rows by place, and the tallies of places.
use Rattle.std.proofs.Common.{◌≡◌, ℕ, zero, suc, ◌+◌, ◌-◌, ◌<◌, ◌≤◌, ◌==◌, Bool, cond, List, [], ◌∷◌, All, length, get_or, map, map-id, sum, sum_by, arith, refl, sym, ◌∙◌, ap, subst}
use Rattle.std.specs.List.{range_with_len}
use Rattle.std.proofs.lemmas.List.{get_or-map, length-map}
use Rattle.std.proofs.lemmas.List.Elements.{All-from_recursion, All-map}
use Rattle.std.proofs.lemmas.List.FromFn.{fill_by_all}
use Rattle.std.proofs.lemmas.List.Sums.{sum-map, sum_by-cons}
use Rattle.waff_model.specs.Tree.{Node}
use Rattle.waff_assign.specs.Held.{AreKnown, Held, nothing}
use Rattle.waff_assign.specs.Order.{held_of, number_or}
use Rattle.waff_plan.specs.Bound.{IsWorkers}
use Rattle.waff_plan.specs.Chain.{IsAmongFirst}
use Rattle.waff_plan.specs.Work.{Work, numbers, total_of}
use Rattle.waff_figures.specs.ByAffinity.{runs_in}
use Rattle.waff_figures.specs.Sweep.{sweep_workers}
use Rattle.waff_figures.specs.Tally.{is_in, no_tally, tally_of}
use Rattle.waff_figures.specs.declared.tally.Tally.{Tally}
use Rattle.waff_figures.proofs.AddingUp.{all_parts, number_of_some}
use Rattle.waff_figures.proofs.BelowLemmas.{sum_by_places}
use Rattle.waff_figures.proofs.SumLemmas.{sum_same}
use Rattle.waff_figures.proofs.TallyLemmas.{same_tally}

-- rows that are the same at each place
pub map_range_same : {X : Type 0} (f g : ℕ → X) (a n : ℕ) → ((m : ℕ) → a ≤ m → m < a + n → f m ≡ g m)
    → map f (range_with_len a n) ≡ map g (range_with_len a n)
map_range_same f g a zero h = refl
map_range_same f g a (suc n) h =
    ap (λ x. x ∷ map f (range_with_len (a + 1) n)) (h a (omega arith) (omega arith))
    ∙ ap (λ xs. g a ∷ xs) (map_range_same f g (a + 1) n (λ m low high. h m (omega arith) (omega arith)))

pub map_map : {W X Y : Type 0} (f : X → Y) (g : W → X) (xs : List W) → map (λ x. f (g x)) xs ≡ map f (map g xs)
map_map f g [] = refl
map_map f g (x ∷ xs) = ap (λ ys. f (g x) ∷ ys) (map_map f g xs)

-- rows of the elements of a list, place by place
pub map_by_places : {X Y : Type 0} (f : X → Y) (xs : List X) (d : X) → map (λ p. f (get_or xs p d)) (range_with_len 0 (length xs)) ≡ map f xs
map_by_places f xs d =
    map_map f (λ p. get_or xs p d) (range_with_len 0 (length xs))
    ∙ ap (map f) (sym (fill_by_all (λ p. get_or xs p d) xs (length xs) d refl (λ k lt. refl)))

-- sums over the same list
sum_list_same : (f g : ℕ → ℕ) (xs : List ℕ) → ((i : ℕ) → i < length xs → f (get_or xs i 0) ≡ g (get_or xs i 0)) → sum_by f xs ≡ sum_by g xs
sum_list_same f g [] h = refl
sum_list_same f g (x ∷ xs) h =
    let first : f x ≡ g x = h 0 (omega arith) in
    let rest : sum_by f xs ≡ sum_by g xs = sum_list_same f g xs (λ i low. h (suc i) (omega arith)) in
    omega (arith, first, rest, sum_by-cons f x xs, sum_by-cons g x xs)

-- tallies of the same messages
pub tally_same : (work : Work) (chain : List ℕ) (one other : ℕ → Bool) → All (IsAmongFirst work.count) chain
    → ((m : ℕ) → 1 ≤ m → m ≤ work.count → one m ≡ other m) → tally_of work chain one ≡ tally_of work chain other
tally_same work chain one other listed same =
    same_tally (tally_of work chain one) (tally_of work chain other)
    (sum_same (λ m. cond (one m) 1 0) (λ m. cond (other m) 1 0) 1 work.count
    (λ m from to. ap (λ b. cond {A = ℕ} b 1 0) (same m from (omega (arith, to)))))
    (sum_same (λ m. cond (one m) (work.cost m) 0) (λ m. cond (other m) (work.cost m) 0) 1 work.count
    (λ m from to. ap (λ b. cond b (work.cost m) 0) (same m from (omega (arith, to)))))
    (sum_list_same (λ m. cond (one m) (work.cost m) 0) (λ m. cond (other m) (work.cost m) 0) chain
    (λ i low. let is = listed i 0 low in ap (λ b. cond b (work.cost (get_or chain i 0)) 0) (same (get_or chain i 0) is.from is.to)))

-- tallies place by place
abbrev pub AreTalliesOf : (ℕ → ℕ → Bool) → Work → List ℕ → ℕ → List Tally → Type 0
AreTalliesOf belongs work chain n tallies =
    (g : ℕ) → g < n → get_or tallies g no_tally ≡ tally_of work chain (belongs g)

-- those of a tree's affinities, and of none
abbrev pub AreTalliesUnder : List Node → List Held → Work → List ℕ → List Tally → Type 0
AreTalliesUnder tree assigned work chain tallies =
    AreTalliesOf (runs_in tree assigned) work chain (length tree + 1) tallies

-- by a list of the numbers of messages' affinities
module _ (tree : List Node) (assigned : List Held) (none : ℕ) (groups : List ℕ) (behind : none ≡ length tree)
    (groups_are : groups ≡ map (number_or none) assigned) where
  pub groups_known : AreKnown tree assigned → All (λ g. g < none + 1) groups
  groups_known known =
      subst (All (λ g. g < none + 1)) (sym groups_are)
      (All-map (λ g. g < none + 1) (number_or none) assigned (λ k d low.
      number_of_some (get_or assigned k d).affinity none (λ a is. omega (arith, (known k d low).affinity a is, behind))))

  pub runs_in_group : (g m : ℕ) → 1 ≤ m → m ≤ length assigned → is_in groups g m ≡ runs_in tree assigned g m
  runs_in_group g m from to =
      ap (λ n. n == g)
      (ap (λ gs. get_or gs (m - 1) 0) groups_are ∙ get_or-map (number_or none) assigned (m - 1) nothing 0 (omega (arith, from, to))
      ∙ ap (λ n. number_or n (held_of assigned m)) behind)

  pub tallies_by_groups : (work : Work) (chain : List ℕ) (tallies : List Tally) → length assigned ≡ work.count → All (IsAmongFirst work.count) chain
      → AreTalliesOf (is_in groups) work chain (none + 1) tallies → AreTalliesUnder tree assigned work chain tallies
  tallies_by_groups work chain tallies long listed are g low =
      are g (omega (arith, low, behind))
      ∙ tally_same work chain (is_in groups g) (runs_in tree assigned g) listed (λ m from to. runs_in_group g m from (omega (arith, to, long)))

-- their costs, as a list
pub cost_at : (belongs : ℕ → ℕ → Bool) (work : Work) (chain : List ℕ) (n : ℕ) (tallies : List Tally) → length tallies ≡ n → AreTalliesOf belongs work chain n tallies
    → (a : ℕ) → a < n → get_or (map (λ (t : Tally). t.cost) tallies) a 0 ≡ (tally_of work chain (belongs a)).cost
cost_at belongs work chain n tallies long are a low =
    get_or-map (λ (t : Tally). t.cost) tallies a no_tally 0 (omega (arith, long, low)) ∙ ap (λ (t : Tally). t.cost) (are a low)

-- add up to the total
pub tallies_total : (tree : List Node) (assigned : List Held) (work : Work) (chain : List ℕ) (tallies : List Tally) → AreKnown tree assigned
    → length tallies ≡ length tree + 1 → AreTalliesUnder tree assigned work chain tallies → sum_by (λ (t : Tally). t.cost) tallies ≡ total_of work
tallies_total tree assigned work chain tallies known long are =
    let costs = map (λ (t : Tally). t.cost) tallies in
    let count : length costs ≡ length tree + 1 = length-map tallies (λ (t : Tally). t.cost) ∙ long in
    sym (sum-map (λ (t : Tally). t.cost) tallies) ∙ ap sum (sym (map-id costs)) ∙ sum-map (λ n. n) costs
    ∙ sym (sum_by_places costs)
    ∙ ap (λ n. sum_by (λ c. get_or costs c 0) (range_with_len 0 n)) count
    ∙ sum_same (λ c. get_or costs c 0) (λ c. (tally_of work chain (runs_in tree assigned c)).cost) 0 (length tree + 1)
    (λ c from to. cost_at (runs_in tree assigned) work chain (length tree + 1) tallies long are c (omega (arith, to)))
    ∙ all_parts tree assigned work known (numbers work)

fits : (k : ℕ) → 1 ≤ k → k ≤ 64 → IsWorkers k
fits k from to = record { from = from; to = to }

-- the numbers of workers of a sweep are within the limits of the planner
pub sweep_workers_fit : All IsWorkers sweep_workers
sweep_workers_fit = All-from_recursion IsWorkers sweep_workers (
  fits 1 (omega arith) (omega arith),
  (
    fits 2 (omega arith) (omega arith),
    (
      fits 3 (omega arith) (omega arith),
      (
        fits 4 (omega arith) (omega arith),
        (
          fits 6 (omega arith) (omega arith),
          (
            fits 8 (omega arith) (omega arith),
            (
              fits 12 (omega arith) (omega arith),
              (
                fits 16 (omega arith) (omega arith),
                (
                  fits 24 (omega arith) (omega arith),
                  (
                    fits 32 (omega arith) (omega arith),
                    (
                      fits 48 (omega arith) (omega arith),
                      (fits 64 (omega arith) (omega arith), tt),
                    ),
                  ),
                ),
              ),
            ),
          ),
        ),
      ),
    ),
  ),
)

-- The groups of messages, one after another, and rows by them.
use Rattle.std.proofs.Common.{◌≡◌, ℕ, ◌+◌, ◌-◌, ◌<◌, ◌≤◌, ◌==◌, ◌&&◌, Bool, true, List, [], ◌∷◌, ◌++◌, length, get_or, map, All, Option, Some, None, IfSome, unwrap_or, arith, refl, sym, ◌∙◌, ap, subst}
use Rattle.std.specs.List.{range_with_len}
use Rattle.std.specs.List.Sorted.{IsPermutation}
use Rattle.std.specs.Option.{option_eq}
use Rattle.std.specs.Str.{bytes_eq}
use Rattle.std.proofs.lemmas.Bool.Decides.{nat_tests}
use Rattle.std.proofs.lemmas.List.Elements.{All-map}
use Rattle.std.proofs.lemmas.List.Sorted.{All-permutation}
use Rattle.std.proofs.lemmas.List.FromFn.{get_or-map-range_with_len, map-range_with_len_more}
use Rattle.std.proofs.lemmas.Slice.Eq.{bytes_eq-Decides}
use Rattle.waff_model.specs.Tree.{Node}
use Rattle.waff_assign.specs.Held.{AreKnown, Held}
use Rattle.waff_assign.specs.Order.{affinity_of}
use Rattle.waff_plan.specs.Work.{IsAmongFirst}
use Rattle.waff_figures.specs.ByAffinity.{affinity_number}
use Rattle.waff_figures.specs.ByName.{is_named}
use Rattle.waff_figures.specs.Tally.{is_in}
use Rattle.waff_model.specs.declared.cell.Cell.{Cell}
use Rattle.waff_figures.specs.WaitLocks.{space_by}
use Rattle.waff_figures.specs.Waits.{IsWaitAmong}
use Rattle.waff_figures.specs.Groups.{firsts_by}
use Rattle.waff_figures.specs.WaitRows.{AreRows, group_of, row_of, row_over, rows_by, same_group, same_kind}
use Rattle.waff_figures.specs.WaitText.{name_at, same_affinity}
use Rattle.waff_figures.specs.declared.wait_rows.Row.{Row}
use Rattle.waff_figures.specs.declared.waits.Wait.{Wait}
use Rattle.waff_figures.proofs.AddingUp.{affinity_within}
use Rattle.waff_figures.proofs.GroupLemmas.{firsts_all, firsts_same}
use Rattle.waff_figures.proofs.Lists.{filter_same, map_same}

-- one group more
pub grouped_more : (f : ℕ → ℕ × ℕ) (groups now : List (ℕ × ℕ)) (n : ℕ) (g : ℕ × ℕ) → 1 ≤ n → groups ≡ map f (range_with_len 1 (n - 1)) → now ≡ groups ++ g ∷ []
    → g ≡ f n → now ≡ map f (range_with_len 1 (n + 1 - 1))
grouped_more f groups now n g from are pushed is =
    let at : 1 + (n - 1) ≡ n = omega (arith, from) in
    let next : n - 1 + 1 ≡ n + 1 - 1 = omega (arith, from) in
    pushed ∙ ap (λ x. groups ++ x ∷ []) is ∙ ap (λ gs. gs ++ f n ∷ []) are ∙ sym (map-range_with_len_more f 1 (n - 1) n at)
    ∙ ap (λ k. map f (range_with_len 1 k)) next

-- the group of a message
pub grouped_at : (f : ℕ → ℕ × ℕ) (groups : List (ℕ × ℕ)) (n m : ℕ) → groups ≡ map f (range_with_len 1 n) → IsAmongFirst n m → group_of groups m ≡ f m
grouped_at f groups n m are h =
    let from : 1 ≤ m = h.from in
    let to : m ≤ n = h.to in
    ap (λ gs. group_of gs m) are ∙ get_or-map-range_with_len f 1 n (m - 1) m (0, 0) (omega (arith, from, to)) (omega (arith, from))

-- two ways in which messages are alike, that agree on so many messages
module _ (one other : ℕ → ℕ → Bool) (n : ℕ) (agree : (i j : ℕ) → IsAmongFirst n i → IsAmongFirst n j → one i j ≡ other i j) where
  same_causes : (a b : Option ℕ) → IfSome a (IsAmongFirst n) → IfSome b (IsAmongFirst n) → option_eq one a b ≡ option_eq other a b
  same_causes None None first second = refl
  same_causes None (Some j) first second = refl
  same_causes (Some i) None first second = refl
  same_causes (Some i) (Some j) first second = agree i j first second

  module _ (cells : List Cell) (ws : List Wait) (among : All (IsWaitAmong n) ws) where
    kinds_agree : (w v : Wait) → IsWaitAmong n w → IsWaitAmong n v → same_kind one cells w v ≡ same_kind other cells w v
    kinds_agree w v first second =
        ap (λ b. b && (option_eq one w.on v.on && option_eq (λ s t. s == t) (space_by cells w.by) (space_by cells v.by)))
        (agree w.message v.message first.message second.message)
        ∙ ap (λ b. other w.message v.message && (b && option_eq (λ s t. s == t) (space_by cells w.by) (space_by cells v.by)))
        (same_causes w.on v.on first.on second.on)

    -- the first waits of all kinds are among these
    firsts_among : All (IsWaitAmong n) (firsts_by (same_kind one cells) ws)
    firsts_among = firsts_all (same_kind one cells) (IsWaitAmong n) ws among

    pub rows_among : (rows : List Row) → AreRows (same_kind one cells) ws rows → All (λ (row : Row). IsWaitAmong n row.first) rows
    rows_among rows are =
        All-permutation (λ (row : Row). IsWaitAmong n row.first) (rows_by (same_kind one cells) ws) rows are.are
        (All-map (λ (row : Row). IsWaitAmong n row.first) (row_of (same_kind one cells) ws) (firsts_by (same_kind one cells) ws) firsts_among)

    rows_by_same : rows_by (same_kind one cells) ws ≡ rows_by (same_kind other cells) ws
    rows_by_same =
        let firsts = firsts_by (same_kind one cells) ws in
        map_same (row_of (same_kind one cells) ws) (row_of (same_kind other cells) ws) firsts (λ k d low.
        let first = get_or firsts k d in
        ap (λ l. row_over l first) (filter_same (same_kind one cells first) (same_kind other cells first) ws
        (λ i e inside. kinds_agree first (get_or ws i e) (firsts_among k d low) (among i e inside))))
        ∙ ap (map (row_of (same_kind other cells) ws)) (firsts_same (same_kind one cells) (same_kind other cells) (IsWaitAmong n) kinds_agree ws among)

    pub rows_same : (rows : List Row) → AreRows (same_kind one cells) ws rows → AreRows (same_kind other cells) ws rows
    rows_same rows are = record { are = subst (λ l. IsPermutation l rows) rows_by_same are.are; order = are.order }

-- messages that have places by their names have one place exactly if they have one name
pub names_tell : (names texts : List (List ℕ)) (places : List ℕ) (count keys : ℕ) → length places ≡ count → All (λ p. p < keys) places
    → ((g m : ℕ) → g < keys → 1 ≤ m → m ≤ count → is_in places g m ≡ is_named names (get_or texts g []) m)
    → (m n : ℕ) → IsAmongFirst count m → IsAmongFirst count n → (get_or places (m - 1) 0 == get_or places (n - 1) 0) ≡ bytes_eq (name_at names m) (name_at names n)
names_tell names texts places count keys long known each m n first second =
    let g = get_or places (n - 1) 0 in
    let low : g < keys = known (n - 1) 0 (let from : 1 ≤ n = second.from in let to : n ≤ count = second.to in omega (arith, from, to, long)) in
    let same : (g == g) ≡ true = grind (arith, nat_tests) in
    let named : name_at names n ≡ get_or texts g []
    = (bytes_eq-Decides (name_at names n) (get_or texts g [])).0 (sym (each g n low second.from second.to) ∙ same) in
    each g m low first.from first.to ∙ ap (bytes_eq (name_at names m)) (sym named)

-- what may be missing is the same exactly if its numbers are, where that of none is behind all
options_tell : (a b : Option ℕ) (n : ℕ) → ((x : ℕ) → a ≡ Some x → x < n) → ((x : ℕ) → b ≡ Some x → x < n)
    → (unwrap_or a n == unwrap_or b n) ≡ option_eq (λ x y. x == y) a b
options_tell None None n first second = grind (arith, nat_tests)
options_tell None (Some y) n first second = let low : y < n = second y refl in grind (arith, nat_tests, low)
options_tell (Some x) None n first second = let low : x < n = first x refl in grind (arith, nat_tests, low)
options_tell (Some x) (Some y) n first second = refl

pub affinities_tell : (tree : List Node) (assigned : List Held) → AreKnown tree assigned → (m n : ℕ)
    → (affinity_number tree assigned m == affinity_number tree assigned n) ≡ same_affinity assigned m n
affinities_tell tree assigned known m n =
    options_tell (affinity_of assigned m) (affinity_of assigned n) (length tree) (affinity_within tree assigned known m) (affinity_within tree assigned known n)

-- groups that are made of a number and an affinity
pub groups_tell : (number affinity : ℕ → ℕ) (groups : List (ℕ × ℕ)) (count : ℕ) → groups ≡ map (λ m. (number m, affinity m)) (range_with_len 1 count)
    → (m n : ℕ) → IsAmongFirst count m → IsAmongFirst count n → same_group groups m n ≡ ((number m == number n) && (affinity m == affinity n))
groups_tell number affinity groups count are m n first second =
    let one = grouped_at (λ k. (number k, affinity k)) groups count m are first in
    let other = grouped_at (λ k. (number k, affinity k)) groups count n are second in
    ap (λ g. (g.0 == (group_of groups n).0) && (g.1 == (group_of groups n).1)) one
    ∙ ap (λ g. (number m == g.0) && (affinity m == g.1)) other

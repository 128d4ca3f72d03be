-- The lists that messages are given stay as they are where one message more joins, and are one.
use Rattle.std.proofs.Common.{◌≡◌, ◌≢◌, ℕ, ◌+◌, ◌<◌, ◌≤◌, List, zero, suc, ◌-◌, [], ◌∷◌, ◌++◌, length, get_or, Contains, refl, sym, ◌∙◌, ap, subst, inl, inr, arith}
use Rattle.std.proofs.lemmas.Bool.{cases_lt}
use Rattle.std.proofs.lemmas.List.{ext_get_or, get_or_append_left, get_or_push, length_push}
use Rattle.std.proofs.lemmas.List.Kept.{AllPairs-from_increasing}
use Rattle.std.specs.List.{AllPairs}
use Rattle.std.specs.List.Sorted.{IsStrictlyIncreasing}
use Rattle.waff_model.specs.Tree.{Node}
use Rattle.waff_assign.specs.Held.{Held}
use Rattle.waff_order.specs.Needs.{needs_of}
use Rattle.waff_order.specs.Open.{IsChosen, AreChosen}
use Rattle.waff_order.proofs.Agreeing.{Agree, chosen_as}

-- one message more
pub chosen_more : (tree : List Node) (assigned more : List Held) (needs : List (List ℕ)) (list : List ℕ) → length more ≡ length assigned + 1
    → Agree assigned more (length assigned) → AreChosen tree assigned needs → IsChosen tree more (length assigned) list
    → AreChosen tree more (needs ++ list ∷ [])
chosen_more tree assigned more needs list long agree h last = record {
  count = length_push needs list ∙ omega (arith, h.count, long);
  each = λ n within. elim (cases_lt n (length assigned)) [
    | inl before ↦
        let same : needs_of (needs ++ list ∷ []) (n + 1) ≡ needs_of needs (n + 1) = get_or_append_left needs (list ∷ []) [] (n + 1 - 1) (omega (arith, h.count)) in
        subst (IsChosen tree more n) (sym same)
        (chosen_as tree assigned more (length assigned) agree n (omega arith) (needs_of needs (n + 1)) (h.each n before))
    | inr past ↦
        let at : length assigned ≡ n = omega (arith, long) in
        let same : needs_of (needs ++ list ∷ []) (length assigned + 1) ≡ list = get_or_push needs list [] (length assigned + 1 - 1) (omega (arith, h.count)) in
        subst (λ k. IsChosen tree more k (needs_of (needs ++ list ∷ []) (k + 1))) at
        (subst (IsChosen tree more (length assigned)) (sym same) last)
  ];
}

pub chosen_nothing : (tree : List Node) (needs : List (List ℕ)) → needs ≡ [] → AreChosen tree [] needs
chosen_nothing tree needs none = record { count = ap length none; each = λ n within. absurd (omega arith) }

-- rising lists of the same numbers are equal
rest_has : (x : ℕ) (xs : List ℕ) (y : ℕ) → x < y → Contains (x ∷ xs) y → Contains xs y
rest_has x xs y other (zero, within, same) = absurd (omega (arith, same))
rest_has x xs y other (suc i, within, same) = (i, omega arith, same)

one_more : (x : ℕ) (xs : List ℕ) (y : ℕ) → Contains xs y → Contains (x ∷ xs) y
one_more x xs y (i, within, same) = (suc i, omega arith, same)

first_least : (x : ℕ) (xs : List ℕ) (y : ℕ) → AllPairs (λ a b. a < b) (x ∷ xs) → Contains xs y → x < y
first_least x xs y rises (i, within, same) = subst (λ z. x < z) same (rises zero (suc i) y (omega arith) (omega arith))

at_least : (x : ℕ) (xs : List ℕ) (y : ℕ) → AllPairs (λ a b. a < b) (x ∷ xs) → Contains (x ∷ xs) y → x ≤ y
at_least x xs y rises (zero, within, same) = omega (arith, same)
at_least x xs y rises (suc i, within, same) = let below : x < y = first_least x xs y rises (i, omega arith, same) in omega arith

same_rising : (xs ys : List ℕ) → AllPairs (λ a b. a < b) xs → AllPairs (λ a b. a < b) ys
    → ((x : ℕ) → Contains xs x → Contains ys x) → ((x : ℕ) → Contains ys x → Contains xs x) → xs ≡ ys
same_rising [] [] rises other_rises to back = refl
same_rising [] (y ∷ ys) rises other_rises to back = let there = back y (zero, omega arith, refl) in absurd (omega (arith, there.1))
same_rising (x ∷ xs) [] rises other_rises to back = let there = to x (zero, omega arith, refl) in absurd (omega (arith, there.1))
same_rising (x ∷ xs) (y ∷ ys) rises other_rises to back =
    let low : y ≤ x = at_least y ys x other_rises (to x (zero, omega arith, refl)) in
    let high : x ≤ y = at_least x xs y rises (back y (zero, omega arith, refl)) in
    let same : x ≡ y = omega arith in
    let rest : xs ≡ ys = same_rising xs ys (λ i j d less within. rises (suc i) (suc j) d (omega arith) (omega arith))
    (λ i j d less within. other_rises (suc i) (suc j) d (omega arith) (omega arith))
    (λ z has. let below : x < z = first_least x xs z rises has in rest_has y ys z (omega arith) (to z (one_more x xs z has)))
    (λ z has. let below : y < z = first_least y ys z other_rises has in rest_has x xs z (omega arith) (back z (one_more y ys z has))) in
    cc

-- a rising list is no longer than one that has its numbers
without : (ys : List ℕ) (x : ℕ) → Contains ys x → (zs : List ℕ) × (length ys ≡ length zs + 1) × ((y : ℕ) → y ≢ x → Contains ys y → Contains zs y)
without [] x has = absurd (omega (arith, has.1))
without (y ∷ ys) x (zero, within, same) = (ys, omega arith, λ z other has. rest_of z other has)
  where
    rest_of : (z : ℕ) → z ≢ x → Contains (y ∷ ys) z → Contains ys z
    rest_of z other (zero, inside, is) = absurd (other (sym is ∙ same))
    rest_of z other (suc k, inside, is) = (k, omega arith, is)
without (y ∷ ys) x (suc k, within, same) =
    let there = without ys x (k, omega arith, same) in
    (y ∷ there.0, omega (arith, there.1), λ z other has. rest_of there.0 there.2 z other has)
  where
    rest_of : (zs : List ℕ) → ((z : ℕ) → z ≢ x → Contains ys z → Contains zs z) → (z : ℕ) → z ≢ x → Contains (y ∷ ys) z → Contains (y ∷ zs) z
    rest_of zs rest z other (zero, inside, is) = (zero, omega arith, is)
    rest_of zs rest z other (suc j, inside, is) = one_more y zs z (rest z other (j, omega arith, is))

rising_few_by : (xs ys : List ℕ) → AllPairs (λ a b. a < b) xs → ((x : ℕ) → Contains xs x → Contains ys x) → length xs ≤ length ys
rising_few_by [] ys rises to = omega arith
rising_few_by (x ∷ xs) ys rises to =
    let there = without ys x (to x (zero, omega arith, refl)) in
    let fewer : length xs ≤ length there.0 = rising_few_by xs there.0 (λ i j d less within. rises (suc i) (suc j) d (omega arith) (omega arith))
    (λ z has. let later : x < z = first_least x xs z rises has in there.2 z (λ same. omega arith) (to z (one_more x xs z has))) in
    omega (arith, there.1)

pub rising_few : (xs ys : List ℕ) → IsStrictlyIncreasing xs → ((x : ℕ) → Contains xs x → Contains ys x) → length xs ≤ length ys
rising_few xs ys rises to = rising_few_by xs ys (AllPairs-from_increasing xs rises) to

-- the list of a message is one
chosen_is_one : (tree : List Node) (assigned : List Held) (n : ℕ) (one other : List ℕ) → IsChosen tree assigned n one → IsChosen tree assigned n other
    → one ≡ other
chosen_is_one tree assigned n one other p q =
    same_rising one other (AllPairs-from_increasing one p.rising) (AllPairs-from_increasing other q.rising)
    (λ i has. (q.each i).1 ((p.each i).0 has)) (λ i has. (p.each i).1 ((q.each i).0 has))

-- and so are the lists of all
pub lists_are_one : (tree : List Node) (assigned : List Held) (one other : List (List ℕ)) → AreChosen tree assigned one → AreChosen tree assigned other → one ≡ other
lists_are_one tree assigned one other p q = ext_get_or [] one other (p.count ∙ sym q.count) (λ n within.
    let same = chosen_is_one tree assigned n (needs_of one (n + 1)) (needs_of other (n + 1)) (p.each n (omega (arith, p.count))) (q.each n (omega (arith, p.count))) in
    let at : n + 1 - 1 ≡ n = omega arith in
    subst (λ k. get_or one k [] ≡ get_or other k []) at same)

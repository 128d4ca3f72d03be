-- Numbers that are summed up a tree from the last affinity to the first: how far each has come.
use Rattle.std.proofs.Common.{◌≡◌, ◌≢◌, ℕ, zero, suc, ◌+◌, ◌-◌, ◌<◌, ◌≤◌, ◌↔◌, Bool, true, false, IsTrue, cond, ◌==◌, List, length, get_or, set, map, map-id, if◌then◌else◌, true≢false, Option, Some, None, IsSome, inl, inr, unwrap_or, sum, sum_by, arith, refl, sym, ◌∙◌, ap, subst, length-set, get_or-set_other, get_or-set_same}
use Rattle.std.specs.List.{range_with_len}
use Rattle.std.proofs.lemmas.Bool.{cases_eq, cases_lt}
use Rattle.std.proofs.lemmas.Bool.Decides.{nat_tests}
use Rattle.std.proofs.lemmas.List.FromFn.{fill_by_all}
use Rattle.std.proofs.lemmas.List.Sums.{sum-map}
use Rattle.std.proofs.lemmas.Option.{none-some}
use Rattle.waff_model.specs.Tree.{Node, parent_of, AtOrAbove, IsRooted}
use Rattle.waff_model.proofs.TreeLemmas.{reflexive, above_child, above_parent, transitive, earlier}
use Rattle.waff_figures.specs.Below.{sum_among, IsSumBelow}
use Rattle.waff_figures.proofs.SumLemmas.{sum_same, sum_within, sum_both, sum_one}

-- where a number stands once the affinity x has given its sum to its parent
abbrev pub raised : List Node → ℕ → ℕ → ℕ
raised tree x t = if t == x then unwrap_or (parent_of tree x) x else t

-- where the number of c stands once the last k of n affinities have given theirs
abbrev pub stands_at : List Node → ℕ → ℕ → ℕ → ℕ
stands_at tree n zero c = c
stands_at tree n (suc k) c = raised tree (n - suc k) (stands_at tree n k c)

-- t is the lowest affinity before b that is at or above c
record IsStand (tree : List Node) (b c t : ℕ) : Type 0 where
  before : t < b
  above : AtOrAbove tree t c
  lowest : (x : ℕ) → x < b → AtOrAbove tree x c → AtOrAbove tree x t

some_is : (o : Option ℕ) → IsSome o → (p : ℕ) × (o ≡ Some p)
some_is None h = cc
some_is (Some p) h = (p, refl)

same_tests : (a b : ℕ) → a ≡ b → (a == b) ≡ true
same_tests a b same = grind (arith, nat_tests, same)

other_tests : (a b : ℕ) → a ≢ b → (a == b) ≡ false
other_tests a b other = grind (arith, nat_tests, other)

eq_from_test : (a b : ℕ) → (a == b) ≡ true → a ≡ b
eq_from_test a b pass = elim (cases_eq a b) [
  | inl same ↦ same
  | inr other ↦ absurd (true≢false (sym pass ∙ other_tests a b other))
]

module _ (tree : List Node) (rooted : IsRooted tree) where
  has_parent : (b : ℕ) → 0 < b → b < length tree → (p : ℕ) × (parent_of tree b ≡ Some p)
  has_parent b from to = some_is (parent_of tree b) (rooted.others b from to)

  stand_next : (b c t p : ℕ) → parent_of tree b ≡ Some p → IsStand tree (b + 1) c t → IsStand tree b c (raised tree b t)
  stand_next b c t p is h = elim (cases_eq t b) [
    | inl same ↦
        let at : raised tree b t ≡ p = ap (λ o. if t == b then unwrap_or o b else t) is ∙ ap (λ y. if y then p else t) (same_tests t b same) in
        let on_b : AtOrAbove tree b c = subst (λ x. AtOrAbove tree x c) same h.above in
        subst (IsStand tree b c) (sym at) (record {
          before = rooted.earlier b p is;
          above = transitive tree p b c (above_child tree p b p is (reflexive tree p)) on_b;
          lowest = λ x low above.
              let on : AtOrAbove tree x b = subst (λ y. AtOrAbove tree x y) same (h.lowest x (omega (arith, low)) above) in
              above_parent tree x b p (λ e. omega (arith, e, low)) is on;
        })
    | inr other ↦
        let at : raised tree b t ≡ t = ap (λ y. if y then unwrap_or (parent_of tree b) b else t) (other_tests t b other) in
        let before : t < b + 1 = h.before in
        subst (IsStand tree b c) (sym at) (record {
          before = omega (arith, before, other);
          above = h.above;
          lowest = λ x low above. h.lowest x (omega (arith, low)) above;
        })
  ]

  stand : (k c : ℕ) → k < length tree → c < length tree → IsStand tree (length tree - k) c (stands_at tree (length tree) k c)
  stand zero c some within = record {
    before = omega (arith, within);
    above = reflexive tree c;
    lowest = λ x before above. above;
  }
  stand (suc k) c some within =
      let b = length tree - suc k in
      let at : length tree - k ≡ b + 1 = omega (arith, some) in
      let parent = has_parent b (omega (arith, some)) (omega (arith, some)) in
      stand_next b c (stands_at tree (length tree) k c) parent.0 parent.1
      (subst (λ x. IsStand tree x c (stands_at tree (length tree) k c)) at (stand k c (omega (arith, some)) within))

  -- the number of c stands at b - 1 exactly where b - 1 is at or above c
  stands_tells : (k c : ℕ) → k < length tree → c < length tree
      → IsTrue (stands_at tree (length tree) k c == length tree - suc k) ↔ AtOrAbove tree (length tree - suc k) c
  stands_tells k c some within =
      let h = stand k c some within in
      let t = stands_at tree (length tree) k c in
      let b = length tree - suc k in
      let before : t < length tree - k = h.before in (
        (λ pass. let same : t ≡ b = eq_from_test t b pass in subst (λ x. AtOrAbove tree x c) same h.above),
        (λ above.
            let no_later : b ≤ t = earlier tree rooted b t (h.lowest b (omega (arith, some)) above) in
            same_tests t b (omega (arith, before, no_later))),
      )

-- the affinities from b on have given their sums to their parents, and have all that is below them
pub record IsSummedFrom (tree : List Node) (numbers sums : List ℕ) (b : ℕ) : Type 0 where
  pub count : length sums ≡ length tree
  pub still : (a : ℕ) → a < b → get_or sums a 0 ≡ sum_among numbers (λ c. stands_at tree (length tree) (length tree - b) c == a)
  pub done : (a : ℕ) → b ≤ a → a < length tree → IsSumBelow tree numbers a (get_or sums a 0)

-- where a number stands once b has given its sum to p
abbrev moved : ℕ → ℕ → ℕ → ℕ
moved b p t = if t == b then p else t

moved_joins : (b p t v : ℕ) → p ≢ b → cond (moved b p t == p) v 0 ≡ cond (t == p) v 0 + cond (t == b) v 0
moved_joins b p t v other = grind (arith, nat_tests, other)

moved_apart : (b p a t v : ℕ) → a ≢ p → a < b → cond (moved b p t == a) v 0 ≡ cond (t == a) v 0
moved_apart b p a t v other low = grind (arith, nat_tests, other, low)

cond_within : (b : Bool) (n : ℕ) → cond b n 0 ≤ n
cond_within true n = omega arith
cond_within false n = omega arith

-- the sum of a list, place by place
pub sum_by_places : (xs : List ℕ) → sum_by (λ c. get_or xs c 0) (range_with_len 0 (length xs)) ≡ sum_by (λ n. n) xs
sum_by_places xs =
    let all : xs ≡ map (λ c. get_or xs c 0) (range_with_len 0 (length xs)) = fill_by_all (λ c. get_or xs c 0) xs (length xs) 0 refl (λ k lt. refl) in
    sym (sum-map (λ c. get_or xs c 0) (range_with_len 0 (length xs))) ∙ ap sum (sym all) ∙ ap sum (sym (map-id xs)) ∙ sum-map (λ n. n) xs

module _ (tree : List Node) (rooted : IsRooted tree) (numbers : List ℕ) (long : length numbers ≡ length tree) where
  pub start_summed : IsSummedFrom tree numbers numbers (length tree)
  start_summed = record {
    count = long;
    still = λ a low.
        let none : length tree - length tree ≡ 0 = omega arith in
        let term : ℕ → ℕ = λ c. cond (c == a) (get_or numbers c 0) 0 in
        let one : sum_by term (range_with_len 0 (length numbers)) ≡ term a
        = sum_one term a 0 (length numbers) (omega arith) (omega (arith, low, long)) (λ c from to other. grind (arith, nat_tests, other)) in
        let at : term a ≡ get_or numbers a 0 = grind (arith, nat_tests) in
        sym (subst (λ k. sum_among numbers (λ c. stands_at tree (length tree) k c == a) ≡ get_or numbers a 0) (sym none) (one ∙ at));
    done = λ a low high. absurd (omega (arith, low, high));
  }

  -- the sum at b is done once all after it are
  here_done : (sums : List ℕ) (b : ℕ) → b < length tree → IsSummedFrom tree numbers sums (b + 1) → IsSumBelow tree numbers b (get_or sums b 0)
  here_done sums b within are =
      let k = length tree - (b + 1) in
      let at : length tree - suc k ≡ b = omega (arith, within) in
      record {
        is_below = λ c. stands_at tree (length tree) k c == b;
        tells = λ c inside.
            subst (λ x. IsTrue (stands_at tree (length tree) k c == x) ↔ AtOrAbove tree x c) at
            (stands_tells tree rooted k c (omega (arith, within)) (omega (arith, inside, long)));
        sum_is = are.still b (omega arith);
      }

  -- the places of the numbers before and after b gives its sum to its parent
  stands_next : (b p c : ℕ) → b < length tree → parent_of tree b ≡ Some p
      → stands_at tree (length tree) (length tree - b) c ≡ moved b p (stands_at tree (length tree) (length tree - (b + 1)) c)
  stands_next b p c within is =
      let k = length tree - (b + 1) in
      let t = stands_at tree (length tree) k c in
      let next : length tree - b ≡ suc k = omega (arith, within) in
      let at : length tree - suc k ≡ b = omega (arith, within) in
      ap (λ n. stands_at tree (length tree) n c) next ∙ ap (λ x. raised tree x t) at ∙ ap (λ o. if t == b then unwrap_or o b else t) is

  pub give : (sums : List ℕ) (b p : ℕ) → b < length tree → parent_of tree b ≡ Some p → IsSummedFrom tree numbers sums (b + 1)
      → IsSummedFrom tree numbers (set sums p (get_or sums p 0 + get_or sums b 0)) b
  give sums b p within is are =
      let before : p < b = rooted.earlier b p is in
      let entry = get_or sums p 0 + get_or sums b 0 in
      let n = length numbers in
      let inside : p < length sums = omega (arith, within, before, are.count) in
      let old : ℕ → ℕ → ℕ = λ a c. cond (stands_at tree (length tree) (length tree - (b + 1)) c == a) (get_or numbers c 0) 0 in
      let new : ℕ → ℕ → ℕ = λ a c. cond (stands_at tree (length tree) (length tree - b) c == a) (get_or numbers c 0) 0 in
      let at_p : get_or (set sums p entry) p 0 ≡ entry = get_or-set_same sums p entry 0 inside in
      record {
        count = length-set sums p entry ∙ are.count;
        still = λ a low. elim (cases_eq a p) [
          | inl same ↦
              let both : sum_by (new p) (range_with_len 0 n) ≡ sum_by (λ c. old p c + old b c) (range_with_len 0 n)
              = sum_same (new p) (λ c. old p c + old b c) 0 n
              (λ c from to. ap (λ x. cond (x == p) (get_or numbers c 0) 0) (stands_next b p c within is)
              ∙ moved_joins b p (stands_at tree (length tree) (length tree - (b + 1)) c) (get_or numbers c 0) (omega (arith, before))) in
              let sum : get_or sums p 0 ≡ sum_by (old p) (range_with_len 0 n) = are.still p (omega (arith, before)) in
              let more : get_or sums b 0 ≡ sum_by (old b) (range_with_len 0 n) = are.still b (omega arith) in
              let all : get_or (set sums p entry) p 0 ≡ sum_by (new p) (range_with_len 0 n)
              = omega (arith, at_p, both, sum_both (old p) (old b) (range_with_len 0 n), sum, more) in
              subst (λ x. get_or (set sums p entry) x 0 ≡ sum_by (new x) (range_with_len 0 n)) (sym same) all
          | inr other ↦
              get_or-set_other sums p a entry 0 other ∙ are.still a (omega (arith, low))
              ∙ sum_same (old a) (new a) 0 n
              (λ c from to. sym (ap (λ x. cond (x == a) (get_or numbers c 0) 0) (stands_next b p c within is)
              ∙ moved_apart b p a (stands_at tree (length tree) (length tree - (b + 1)) c) (get_or numbers c 0) other (omega (arith, low))))
        ];
        done = λ a from to.
            let kept : get_or (set sums p entry) a 0 ≡ get_or sums a 0
            = get_or-set_other sums p a entry 0 (λ e. omega (arith, e, from, before)) in
            subst (λ x. IsSumBelow tree numbers a x) (sym kept) (elim (cases_lt b a) [
              | inl later ↦ are.done a (omega (arith, later)) to
              | inr first ↦
                  let same : a ≡ b = omega (arith, first, from) in
                  subst (λ x. IsSumBelow tree numbers x (get_or sums x 0)) (sym same) (here_done sums b within are)
            ]);
      }

  root_is : (b : ℕ) → b < length tree → parent_of tree b ≡ None → b ≡ 0
  root_is b within none = elim (cases_lt 0 b) [
    | inl later ↦ let (p, is) = has_parent tree rooted b later within in absurd (none-some p (sym none ∙ is))
    | inr first ↦ omega (arith, first)
  ]

  -- the root has no parent to give its sum to
  pub give_none : (sums : List ℕ) (b : ℕ) → b < length tree → parent_of tree b ≡ None → IsSummedFrom tree numbers sums (b + 1)
      → IsSummedFrom tree numbers sums b
  give_none sums b within none are =
      let root : b ≡ 0 = root_is b within none in
      record {
        count = are.count;
        still = λ a low. absurd (omega (arith, low, root));
        done = λ a from to. elim (cases_lt b a) [
          | inl later ↦ are.done a (omega (arith, later)) to
          | inr first ↦
              let same : a ≡ b = omega (arith, first, from) in
              subst (λ x. IsSumBelow tree numbers x (get_or sums x 0)) (sym same) (here_done sums b within are)
        ];
      }

  -- what the parent has with what b gives it is within the sum of all
  pub give_within : (sums : List ℕ) (b p : ℕ) → b < length tree → parent_of tree b ≡ Some p → IsSummedFrom tree numbers sums (b + 1)
      → get_or sums p 0 + get_or sums b 0 ≤ sum_by (λ n. n) numbers
  give_within sums b p within is are =
      let before : p < b = rooted.earlier b p is in
      let inside : p < length sums = omega (arith, within, before, are.count) in
      let more = give sums b p within is are in
      let entry = get_or sums p 0 + get_or sums b 0 in
      let at_p : get_or (set sums p entry) p 0 ≡ entry = get_or-set_same sums p entry 0 inside in
      let is_sum = more.still p before in
      let all : ℕ → ℕ = λ c. get_or numbers c 0 in
      let bound : sum_among numbers (λ c. stands_at tree (length tree) (length tree - b) c == p) ≤ sum_by all (range_with_len 0 (length numbers))
      = sum_within _ all 0 (length numbers) (λ c from to. cond_within (stands_at tree (length tree) (length tree - b) c == p) (get_or numbers c 0)) in
      omega (arith, at_p, is_sum, bound, sum_by_places numbers)

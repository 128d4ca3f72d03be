-- The order of messages by a key, as the tick at which they are issued or start, of equal keys by number: it is total, and each message has a place in it.
use Rattle.std.proofs.Common.{◌≡◌, ℕ, zero, suc, ◌+◌, ◌<◌, ◌≤◌, ◌⊎◌, inl, inr, Bool, ◌&&◌, ◌||◌, ◌==◌, nat_lt, nat_le, cond, sum_by, arith, refl, sym, ap, subst}
use Rattle.std.specs.List.{range_with_len}
use Rattle.std.proofs.lemmas.Bool.{cases_eq, cases_order}
use Rattle.std.proofs.lemmas.Bool.Decides.{nat_tests}
use Rattle.std.proofs.lemmas.List.Sums.{sum_by-cons}
use Rattle.waff_plan.specs.Order.{ComesBefore}
use Rattle.waff_plan.specs.Work.{Work, IsNumber, numbers}
use Rattle.waff_plan.proofs.Ticks.{sum_by-range_with_len-le}

-- a sum over a range of terms that are no greater, one of which is less, is less
pub sum_by-range_with_len-lt : (f g : ℕ → ℕ) (a n m : ℕ) → ((i : ℕ) → a ≤ i → i < a + n → f i ≤ g i) → a ≤ m → m < a + n → f m < g m
    → sum_by f (range_with_len a n) < sum_by g (range_with_len a n)
sum_by-range_with_len-lt f g a zero m each low high less = absurd (omega arith)
sum_by-range_with_len-lt f g a (suc n) m each low high less =
    let sums = sum_by-cons f a (range_with_len (a + 1) n) in
    let others = sum_by-cons g a (range_with_len (a + 1) n) in
    let one : f a ≤ g a = each a (omega arith) (omega arith) in
    elim (cases_eq m a) [
      | inl here ↦
          let more = sum_by-range_with_len-le f g (a + 1) n (λ i from to. each i (omega (arith, from)) (omega (arith, to))) in
          omega (arith, sums, others, more, less, ap f here, ap g here)
      | inr there ↦
          let more = sum_by-range_with_len-lt f g (a + 1) n m (λ i from to. each i (omega (arith, from)) (omega (arith, to))) (omega (arith, low, there)) (omega (arith, high)) less in
          omega (arith, sums, others, one, more)
    ]

-- whether what has the one key and the one number comes no later than what has the other key and the other number
abbrev is_no_later : ℕ → ℕ → ℕ → ℕ → Bool
is_no_later a i b j = nat_lt a b || (a == b && nat_le i j)

counts : ℕ → ℕ → ℕ → ℕ → ℕ
counts a i b j = cond (is_no_later a i b j) 1 0

counts_itself : (a i : ℕ) → counts a i a i ≡ 1
unfolding counts
counts_itself a i = grind (arith, nat_tests)

counts_sooner : (a i b j c k : ℕ) → b < c → counts a i b j ≤ counts a i c k
unfolding counts
counts_sooner a i b j c k sooner = grind (arith, nat_tests)

counts_lower : (a i b j k : ℕ) → j < k → counts a i b j ≤ counts a i b k
unfolding counts
counts_lower a i b j k lower = grind (arith, nat_tests)

counts_not_sooner : (a i b j : ℕ) → b < a → counts a i b j ≡ 0
unfolding counts
counts_not_sooner a i b j sooner = grind (arith, nat_tests)

counts_not_lower : (a i j : ℕ) → j < i → counts a i a j ≡ 0
unfolding counts
counts_not_lower a i j lower = grind (arith, nat_tests)

counts-le : (a i b j : ℕ) → counts a i b j ≤ 1
unfolding counts
counts-le a i b j = grind (arith, nat_tests)

pub sum_of_ones : (a n : ℕ) → sum_by (λ i. 1) (range_with_len a n) ≡ n
sum_of_ones a zero = refl
sum_of_ones a (suc n) = omega (arith, sum_by-cons (λ i. 1) a (range_with_len (a + 1) n), sum_of_ones (a + 1) n)

-- the order by key and number is total
pub keyed_not_itself : (key : ℕ → ℕ) (i : ℕ) → ComesBefore key i i → ⊥
keyed_not_itself key i (inl sooner) = omega (arith, sooner)
keyed_not_itself key i (inr same) = omega (arith, same.1)

pub keyed_on : (key : ℕ → ℕ) (i j k : ℕ) → ComesBefore key i j → ComesBefore key j k → ComesBefore key i k
keyed_on key i j k (inl sooner) (inl more) = inl (omega (arith, sooner, more))
keyed_on key i j k (inl sooner) (inr same) = inl (omega (arith, sooner, same.0))
keyed_on key i j k (inr same) (inl sooner) = inl (omega (arith, sooner, same.0))
keyed_on key i j k (inr same) (inr more) = inr (omega (arith, same.0, more.0), omega (arith, same.1, more.1))

pub one_is_keyed_first : (key : ℕ → ℕ) (i j : ℕ) → (i ≡ j) ⊎ (ComesBefore key i j ⊎ ComesBefore key j i)
one_is_keyed_first key i j = elim (cases_order (key i) (key j)) [
  | inl same ↦ elim (cases_order i j) [
    | inl one ↦ inl one
    | inr (inl lower) ↦ inr (inl (inr (same, lower)))
    | inr (inr higher) ↦ inr (inr (inr (sym same, higher)))
  ]
  | inr (inl sooner) ↦ inr (inl (inl sooner))
  | inr (inr later) ↦ inr (inr (inl later))
]

module _ (work : Work) (key : ℕ → ℕ) where
  -- the place of a message by its key: how many messages have no later key
  pub place_of : ℕ → ℕ
  place_of m = sum_by (λ i. counts (key i) i (key m) m) (numbers work)

  counts_more : (i j k : ℕ) → ComesBefore key j k
      → counts (key i) i (key j) j ≤ counts (key i) i (key k) k
  counts_more i j k (inl sooner) = counts_sooner (key i) i (key j) j (key k) k sooner
  counts_more i j k (inr same) =
      subst (λ c. counts (key i) i (key j) j ≤ counts (key i) i c k) same.0
      (counts_lower (key i) i (key j) j k same.1)

  counts_later : (i m : ℕ) → ComesBefore key i m → counts (key m) m (key i) i ≡ 0
  counts_later i m (inl sooner) = counts_not_sooner (key m) m (key i) i sooner
  counts_later i m (inr same) =
      subst (λ b. counts (key m) m b i ≡ 0) (sym same.0) (counts_not_lower (key m) m i same.1)

  pub earlier_place : (i m : ℕ) → IsNumber work m → ComesBefore key i m → place_of i < place_of m
  unfolding place_of
  earlier_place i m number issued =
      sum_by-range_with_len-lt (λ n. counts (key n) n (key i) i) (λ n. counts (key n) n (key m) m)
      1 work.count m (λ n from to. counts_more n i m issued) number.from (omega (arith, number.to))
      (omega (arith, counts_later i m issued, counts_itself (key m) m))

  pub place_from : (m : ℕ) → IsNumber work m → 1 ≤ place_of m
  unfolding place_of
  place_from m number =
      let some = sum_by-range_with_len-lt (λ n. 0) (λ n. counts (key n) n (key m) m)
      1 work.count m (λ n from to. omega arith) number.from (omega (arith, number.to)) (omega (arith, counts_itself (key m) m)) in
      omega (arith, some)

  pub place_to : (m : ℕ) → place_of m ≤ work.count
  unfolding place_of
  place_to m =
      let ones : sum_by (λ n. 1) (numbers work) ≡ work.count = sum_of_ones 1 work.count in
      let all = sum_by-range_with_len-le (λ n. counts (key n) n (key m) m) (λ n. 1) 1 work.count
      (λ n from to. counts-le (key n) n (key m) m) in
      omega (arith, ones, all)

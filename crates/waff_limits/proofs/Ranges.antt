-- Sums and greatest values over the numbers of messages.
use Rattle.std.proofs.Common.{◌≡◌, inl, inr, ℕ, zero, suc, ◌+◌, ◌-◌, ◌<◌, ◌≤◌, max, List, length, get_or, map, sum_by, refl, sym, ◌∙◌, ap, subst, arith}
use Rattle.std.specs.List.{range_with_len}
use Rattle.std.proofs.lemmas.Bool.{cases_eq}
use Rattle.std.proofs.lemmas.List.{get_or-map, length-map}
use Rattle.std.proofs.lemmas.List.Recursion.{max_least}
use Rattle.waff_model.specs.declared.message.Message.{Message}
use Rattle.waff_plan.specs.Timetable.{message_of, no_message}
use Rattle.waff_plan.specs.Work.{greatest}
use Rattle.waff_plan.proofs.Longest.{greatest_more, sum_more}

sum_next : (f : ℕ → ℕ) (n : ℕ) → sum_by f (range_with_len 1 (suc n)) ≡ sum_by f (range_with_len 1 n) + f (suc n)
sum_next f n = let next : n + 1 ≡ suc n = omega arith in subst (λ k. sum_by f (range_with_len 1 k) ≡ sum_by f (range_with_len 1 n) + f k) next (sum_more f n)

greatest_next : (f : ℕ → ℕ) (n : ℕ) → greatest (map f (range_with_len 1 (suc n))) ≡ max (greatest (map f (range_with_len 1 n))) (f (suc n))
greatest_next f n =
    let next : n + 1 ≡ suc n = omega arith in
    subst (λ k. greatest (map f (range_with_len 1 k)) ≡ max (greatest (map f (range_with_len 1 n))) (f k)) next (greatest_more f n)

pub sum_within : (f g : ℕ → ℕ) (n : ℕ) → ((m : ℕ) → 1 ≤ m → m ≤ n → f m ≤ g m) → sum_by f (range_with_len 1 n) ≤ sum_by g (range_with_len 1 n)
sum_within f g zero less = omega arith
sum_within f g (suc n) less =
    omega (arith, sum_next f n, sum_next g n, less (suc n) (omega arith) (omega arith), sum_within f g n (λ m from to. less m from (omega (arith, to))))

-- where one term is less by so much
pub sum_within_by : (f g : ℕ → ℕ) (n r x : ℕ) → 1 ≤ r → r ≤ n → ((m : ℕ) → 1 ≤ m → m ≤ n → f m ≤ g m) → f r + x ≤ g r
    → sum_by f (range_with_len 1 n) + x ≤ sum_by g (range_with_len 1 n)
sum_within_by f g zero r x from to less here = absurd (omega (arith, from, to))
sum_within_by f g (suc n) r x from to less here = elim (cases_eq r (suc n)) [
  | inl same ↦
      let last : f (suc n) + x ≤ g (suc n) = subst (λ k. f k + x ≤ g k) same here in
      omega (arith, sum_next f n, sum_next g n, last, sum_within f g n (λ m from to. less m from (omega (arith, to))))
  | inr other ↦
      let before = sum_within_by f g n r x from (omega (arith, to, other)) (λ m from to. less m from (omega (arith, to))) here in
      omega (arith, sum_next f n, sum_next g n, less (suc n) (omega arith) (omega arith), before)
]

pub sum_same : (f g : ℕ → ℕ) (n : ℕ) → ((m : ℕ) → 1 ≤ m → m ≤ n → f m ≡ g m) → sum_by f (range_with_len 1 n) ≡ sum_by g (range_with_len 1 n)
sum_same f g n same =
    omega (
      arith,
      sum_within f g n (λ m from to. omega (arith, same m from to)),
      sum_within g f n (λ m from to. omega (arith, same m from to)),
    )

pub greatest_within : (f g : ℕ → ℕ) (n : ℕ) → ((m : ℕ) → 1 ≤ m → m ≤ n → f m ≤ g m) → greatest (map f (range_with_len 1 n)) ≤ greatest (map g (range_with_len 1 n))
greatest_within f g zero less = omega arith
greatest_within f g (suc n) less =
    omega (arith, greatest_next f n, greatest_next g n, less (suc n) (omega arith) (omega arith), greatest_within f g n (λ m from to. less m from (omega (arith, to))))

pub greatest_same : (f g : ℕ → ℕ) (n : ℕ) → ((m : ℕ) → 1 ≤ m → m ≤ n → f m ≡ g m) → greatest (map f (range_with_len 1 n)) ≡ greatest (map g (range_with_len 1 n))
greatest_same f g n same =
    omega (
      arith,
      greatest_within f g n (λ m from to. omega (arith, same m from to)),
      greatest_within g f n (λ m from to. omega (arith, same m from to)),
    )

pub one_within : (f : ℕ → ℕ) (n r : ℕ) → 1 ≤ r → r ≤ n → f r ≤ greatest (map f (range_with_len 1 n))
one_within f zero r from to = absurd (omega (arith, from, to))
one_within f (suc n) r from to = elim (cases_eq r (suc n)) [
  | inl same ↦ omega (arith, greatest_next f n, ap f same)
  | inr other ↦ omega (arith, greatest_next f n, one_within f n r from (omega (arith, to, other)))
]

-- a bound on each message bounds the greatest
pub messages_within : (f : Message → ℕ) (messages : List Message) (bound : ℕ) → ((m : ℕ) → 1 ≤ m → m ≤ length messages → f (message_of messages m) ≤ bound)
    → greatest (map f messages) ≤ bound
messages_within f messages bound less =
    max_least greatest (λ x. x) refl (λ _ _. refl) (map f messages) 0 bound
    (λ i below.
    let short : i < length messages = subst (λ n. i < n) (length-map messages f) below in
    let at : get_or (map f messages) i 0 ≡ f (get_or messages i no_message) = get_or-map f messages i no_message 0 short in
    let back : i + 1 - 1 ≡ i = omega arith in
    let here : f (message_of messages (i + 1)) ≡ f (get_or messages i no_message) = ap (λ k. f (get_or messages k no_message)) back in
    omega (arith, at, here, less (i + 1) (omega arith) (omega (arith, short))))

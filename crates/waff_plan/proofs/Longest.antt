-- The numbers of the messages, and the length of a plan as the least bound of its finishes.
use Rattle.std.proofs.Common.{◌++◌, sum_by, ap, map-id, ◌≡◌, ℕ, ◌+◌, ◌-◌, ◌<◌, ◌≤◌, max, [], ◌∷◌, map, length, get_or, refl, arith, subst, sym, ◌∙◌}
use Rattle.std.specs.List.{range_with_len}
use Rattle.std.proofs.lemmas.List.FromFn.{length-map-range_with_len, get_or-map-range_with_len, map-range_with_len_more}
use Rattle.std.proofs.lemmas.List.Recursion.{max_bounds, max_least, max_push}
use Rattle.std.proofs.lemmas.List.Sums.{sum_by_push}
use Rattle.waff_plan.specs.Work.{Work, IsNumber, numbers, finish_of, greatest, length_of}

-- each finish is within the length
pub finish_of-le-length_of : (work : Work) (start : ℕ → ℕ) (m : ℕ) → IsNumber work m → finish_of work start m ≤ length_of work start
finish_of-le-length_of work start m h =
    let from : 1 ≤ m = h.from in
    let to : m ≤ work.count = h.to in
    let below : m - 1 < work.count = omega arith in
    let finishes = map (finish_of work start) (numbers work) in
    let span : m - 1 < length finishes = subst (λ n. m - 1 < n) (sym (length-map-range_with_len (finish_of work start) 1 work.count)) below in
    let at : get_or finishes (m - 1) 0 ≡ finish_of work start m
    = get_or-map-range_with_len (finish_of work start) 1 work.count (m - 1) m 0 below (omega arith) in
    subst (λ n. n ≤ length_of work start) at (max_bounds greatest (λ x. x) refl (λ _ _. refl) finishes (m - 1) 0 span)

-- a bound on each finish bounds the length
pub length_of-le : (work : Work) (start : ℕ → ℕ) (bound : ℕ) → ((m : ℕ) → IsNumber work m → finish_of work start m ≤ bound) → length_of work start ≤ bound
length_of-le work start bound h =
    let finishes = map (finish_of work start) (numbers work) in
    max_least greatest (λ x. x) refl (λ _ _. refl) finishes 0 bound
    (λ i below.
    let short : i < work.count = subst (λ n. i < n) (length-map-range_with_len (finish_of work start) 1 work.count) below in
    let at : get_or finishes i 0 ≡ finish_of work start (i + 1)
    = get_or-map-range_with_len (finish_of work start) 1 work.count i (i + 1) 0 short (omega arith) in
    subst (λ n. n ≤ bound) (sym at) (h (i + 1) (record { from = omega arith; to = omega arith })))

-- the range with one more number
pub range_with_len_more : (a n j : ℕ) → a + n ≡ j → range_with_len a (n + 1) ≡ range_with_len a n ++ j ∷ []
range_with_len_more a n j is =
    sym (map-id (range_with_len a (n + 1))) ∙ map-range_with_len_more (λ x. x) a n j is ∙ ap (λ xs. xs ++ j ∷ []) (map-id (range_with_len a n))

-- the length with one more message
pub greatest_more : (f : ℕ → ℕ) (n : ℕ)
    → greatest (map f (range_with_len 1 (n + 1))) ≡ max (greatest (map f (range_with_len 1 n))) (f (n + 1))
greatest_more f n =
    ap greatest (map-range_with_len_more f 1 n (n + 1) (omega arith))
    ∙ max_push greatest (λ x. x) refl (λ _ _. refl) (map f (range_with_len 1 n)) (f (n + 1))

-- a sum with one more message
pub sum_more : (f : ℕ → ℕ) (n : ℕ) → sum_by f (range_with_len 1 (n + 1)) ≡ sum_by f (range_with_len 1 n) + f (n + 1)
sum_more f n = ap (λ xs. sum_by f xs) (range_with_len_more 1 n (n + 1) (omega arith)) ∙ sum_by_push f (range_with_len 1 n) (n + 1)

-- How many ticks have passed, and how many messages run.
use Rattle.std.proofs.Common.{◌≡◌, ℕ, zero, suc, ◌+◌, ◌-◌, ◌≤◌, Bool, true, false, cond, ◌&&◌, nat_le, nat_lt, List, [], ◌∷◌, ◌++◌, map, length, count_by, arith, refl, sym}
use Rattle.std.specs.List.{range_with_len}
use Rattle.std.specs.List.Sorted.{IsPartitionPoint}
use Rattle.std.proofs.lemmas.Bool.{cond-true, cond-false}
use Rattle.std.proofs.lemmas.Bool.Decides.{nat_tests}
use Rattle.std.proofs.lemmas.List.FromFn.{map-range_with_len_more}
use Rattle.std.proofs.lemmas.List.Sorted.{sum_by-IsPermutation}
use Rattle.std.proofs.lemmas.List.Sums.{sum_by-cons}
use Rattle.waff_plan.specs.Work.{Work, finish_of, numbers}
use Rattle.waff_plan.specs.Workers.{running, runs_at}
use Rattle.waff_check.specs.Crowds.{AreTicks}

-- where the first n pass, and no other does, n are counted
pub count-point : (p : ℕ → Bool) (xs : List ℕ) (n : ℕ) → n ≤ length xs → IsPartitionPoint (λ x. p x ≡ true) (λ x. p x ≡ false) xs n → count_by p xs ≡ n
count-point p [] n within point = omega arith
count-point p (x ∷ xs) zero within point =
    let first : cond {A = ℕ} (p x) 1 0 ≡ 0 = cond-false (p x) 1 0 (point.1 0 x (omega arith) (omega arith)) in
    let rest : count_by p xs ≡ 0 = count-point p xs zero (omega arith) (λ k d from to. absurd (omega arith), λ k d from to. point.1 (suc k) d (omega arith) (omega arith)) in
    omega (arith, first, rest, sum_by-cons (λ y. cond (p y) 1 0) x xs)
count-point p (x ∷ xs) (suc n) within point =
    let first : cond {A = ℕ} (p x) 1 0 ≡ 1 = cond-true (p x) 1 0 (point.0 0 x (omega arith) (omega arith)) in
    let rest : count_by p xs ≡ n
    = count-point p xs n (omega arith) (λ k d from to. point.0 (suc k) d (omega arith) (omega arith), λ k d from to. point.1 (suc k) d (omega arith) (omega arith)) in
    omega (arith, first, rest, sum_by-cons (λ y. cond (p y) 1 0) x xs)

-- the numbers f m of the messages below n, and one more
pub ticks-more : (f : ℕ → ℕ) (n tick : ℕ) (old new : List ℕ) → 1 ≤ n → old ≡ map f (range_with_len 1 (n - 1)) → tick ≡ f n → new ≡ old ++ tick ∷ []
    → new ≡ map f (range_with_len 1 (n + 1 - 1))
ticks-more f n tick old new from so_far is more =
    let next : n + 1 - 1 ≡ n - 1 + 1 = omega arith in
    rw (more, is, so_far, next) (sym (map-range_with_len_more f 1 (n - 1) n (omega arith)))

-- how many ticks are no later than t
abbrev pub passed : ℕ → List ℕ → ℕ
passed t ticks = count_by (λ x. nat_le x t) ticks

one-more : (start cost t : ℕ) → cond {A = ℕ} (nat_le start t && nat_lt t (start + cost)) 1 0 + cond {A = ℕ} (nat_le (start + cost) t) 1 0 ≡ cond {A = ℕ} (nat_le start t) 1 0
one-more start cost t = grind (arith, nat_tests)

module _ (work : Work) (start : ℕ → ℕ) (t : ℕ) where
  -- those that run and those that have finished are those that have started
  run-or-finished : (messages : List ℕ)
      → count_by (runs_at work start t) messages + passed t (map (finish_of work start) messages) ≡ passed t (map start messages)
  run-or-finished [] = refl
  run-or-finished (m ∷ rest) =
      let others = run-or-finished rest in
      let one = one-more (start m) (work.cost m) t in
      omega (
        arith,
        others,
        one,
        sum_by-cons (λ x. cond (runs_at work start t x) 1 0) m rest,
        sum_by-cons (λ x. cond (nat_le x t) 1 0) (finish_of work start m) (map (finish_of work start) rest),
        sum_by-cons (λ x. cond (nat_le x t) 1 0) (start m) (map start rest),
      )

  -- more than k run where more than k of those that have started have not finished
  pub crowded-by-ticks : (starts finishes : List ℕ) (k : ℕ) → AreTicks work start starts finishes
      → nat_lt (passed t finishes + k) (passed t starts) ≡ nat_lt k (running work start t)
  crowded-by-ticks starts finishes k are =
      let all = run-or-finished (numbers work) in
      let begun : passed t starts ≡ passed t (map start (numbers work)) = sum_by-IsPermutation (λ x. cond (nat_le x t) 1 0) (map start (numbers work)) starts are.of_starts in
      let done : passed t finishes ≡ passed t (map (finish_of work start) (numbers work))
      = sum_by-IsPermutation (λ x. cond (nat_le x t) 1 0) (map (finish_of work start) (numbers work)) finishes are.of_finishes in
      same-test (passed t finishes) k (passed t starts) (running work start t) (omega (arith, all, begun, done))
    where
      same-test : (f k s r : ℕ) → r + f ≡ s → nat_lt (f + k) s ≡ nat_lt k r
      same-test f k s r e = grind (arith, nat_tests, e)

-- The work that is done below a tick, summed over the messages or over the ticks.
use Rattle.std.proofs.Common.{◌≡◌, ℕ, zero, suc, ◌+◌, ◌-◌, ◌*◌, ◌<◌, ◌≤◌, min, List, [], ◌∷◌, cond, ◌&&◌, nat_le, nat_lt, sum_by, count_by, arith, refl, mul-suc, mul-zero}
use Rattle.std.specs.List.{range_with_len}
use Rattle.std.proofs.lemmas.List.Sums.{sum_by-cons}
use Rattle.std.proofs.lemmas.Bool.Decides.{nat_tests}
use Rattle.waff_plan.specs.Work.{Work, IsNumber, numbers, length_of, total_of}
use Rattle.waff_plan.specs.Workers.{runs_at, running}
use Rattle.waff_plan.specs.Laws.{TotalIsWithinWorkers}
use Rattle.waff_plan.proofs.Longest.{finish_of-le-length_of}

-- for how many ticks below t a message runs that has this start and cost
abbrev pub ticks_below : ℕ → ℕ → ℕ → ℕ
ticks_below start cost t = min cost (t - start)

-- the work that the messages of a list do below the tick t
abbrev pub run_below : Work → (ℕ → ℕ) → ℕ → List ℕ → ℕ
run_below work start t messages = sum_by (λ m. ticks_below (start m) (work.cost m) t) messages

-- one more tick adds one where the message runs at it
pub ticks_below-suc : (start cost t : ℕ)
    → ticks_below start cost (suc t) ≡ ticks_below start cost t + cond (nat_le start t && nat_lt t (start + cost)) 1 0
ticks_below-suc start cost t = grind (arith, nat_tests)

-- one more tick adds as much as messages of the list run at it
pub run_below-suc : (work : Work) (start : ℕ → ℕ) (t : ℕ) (messages : List ℕ)
    → run_below work start (suc t) messages ≡ run_below work start t messages + count_by (runs_at work start t) messages
run_below-suc work start t [] = refl
run_below-suc work start t (m ∷ rest) =
    let others = run_below-suc work start t rest in
    let one = ticks_below-suc (start m) (work.cost m) t in
    let now = sum_by-cons (λ x. ticks_below (start x) (work.cost x) t) m rest in
    let then = sum_by-cons (λ x. ticks_below (start x) (work.cost x) (suc t)) m rest in
    let run = sum_by-cons (λ x. cond (runs_at work start t x) 1 0) m rest in
    omega (arith, others, one, now, then, run)

-- below the tick 0 no work is done
pub run_below-zero : (work : Work) (start : ℕ → ℕ) (messages : List ℕ) → run_below work start 0 messages ≡ 0
run_below-zero work start [] = refl
run_below-zero work start (m ∷ rest) =
    let others = run_below-zero work start rest in
    let now = sum_by-cons (λ x. ticks_below (start x) (work.cost x) 0) m rest in
    omega (arith, others, now)

-- a sum over a range of terms that are no greater is no greater
pub sum_by-range_with_len-le : (f g : ℕ → ℕ) (a n : ℕ) → ((m : ℕ) → a ≤ m → m < a + n → f m ≤ g m)
    → sum_by f (range_with_len a n) ≤ sum_by g (range_with_len a n)
sum_by-range_with_len-le f g a zero h = omega arith
sum_by-range_with_len-le f g a (suc n) h =
    let first : f a ≤ g a = h a (omega arith) (omega arith) in
    let rest : sum_by f (range_with_len (a + 1) n) ≤ sum_by g (range_with_len (a + 1) n)
    = sum_by-range_with_len-le f g (a + 1) n (λ m low high. h m (omega arith) (omega arith)) in
    omega (arith, sum_by-cons f a (range_with_len (a + 1) n), sum_by-cons g a (range_with_len (a + 1) n))

-- the same over the numbers of all messages
pub sum_by-numbers-le : (work : Work) (f g : ℕ → ℕ) → ((m : ℕ) → IsNumber work m → f m ≤ g m)
    → sum_by f (numbers work) ≤ sum_by g (numbers work)
sum_by-numbers-le work f g h =
    sum_by-range_with_len-le f g 1 work.count (λ m low high. h m (record { from = low; to = omega arith }))

-- below the length all work is done
pub total_of-le-run_below : (work : Work) (start : ℕ → ℕ) (t : ℕ) → length_of work start ≤ t → total_of work ≤ run_below work start t (numbers work)
total_of-le-run_below work start t long =
    sum_by-numbers-le work work.cost (λ m. ticks_below (start m) (work.cost m) t)
    (λ m h. let within : start m + work.cost m ≤ length_of work start = finish_of-le-length_of work start m h in omega arith)

-- where at most k messages run at each tick, at most k * t ticks of work are done below t
pub run_below-le : (work : Work) (start : ℕ → ℕ) (k : ℕ) → ((t : ℕ) → running work start t ≤ k) → (t : ℕ)
    → run_below work start t (numbers work) ≤ k * t
run_below-le work start k within zero = omega (arith, run_below-zero work start (numbers work), mul-zero k)
run_below-le work start k within (suc t) =
    let before = run_below-le work start k within t in
    let more = run_below-suc work start t (numbers work) in
    omega (arith, before, more, within t, mul-suc k t)

pub total_is_within_workers : (before : ℕ → ℕ → Type 0) (work : Work) → TotalIsWithinWorkers before work
total_is_within_workers before work k start h =
    let done = total_of-le-run_below work start (length_of work start) (omega arith) in
    let most = run_below-le work start k h.within (length_of work start) in
    omega (arith, done, most)

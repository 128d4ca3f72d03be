-- The messages that run at a tick, and their workers.
use Rattle.std.proofs.Common.{◌≡◌, ◌≢◌, ℕ, ◌+◌, ◌<◌, ◌≤◌, inl, inr, true, false, ◌&&◌, nat_le, nat_lt, arith, ap, sym}
use Rattle.std.proofs.lemmas.Bool.{cases_lt}
use Rattle.std.proofs.lemmas.Bool.Decides.{nat_tests}
use Rattle.waff_plan.specs.Work.{Work, IsNumber, finish_of}
use Rattle.waff_plan.specs.Workers.{runs_at, running}
use Rattle.waff_list.specs.Seats.{ComesBefore, IsSeated}
use Rattle.waff_list.proofs.Pigeonhole.{count_same, count_none, runs_within, runs_on_all, runs_not_on}

module _ (work : Work) (start : ℕ → ℕ) (t m : ℕ) where
  -- a message that runs has started and has not finished
  pub runs_parts : runs_at work start t m ≡ true → (start m ≤ t) × (t < finish_of work start m)
  runs_parts runs = (grind (arith, nat_tests), grind (arith, nat_tests))

  pub runs_from : start m ≤ t → t < finish_of work start m → runs_at work start t m ≡ true
  runs_from started unfinished = grind (arith, nat_tests)

  pub runs_before_start : t < start m → runs_at work start t m ≡ false
  runs_before_start early = grind (arith, nat_tests)

  pub runs_after_finish : finish_of work start m ≤ t → runs_at work start t m ≡ false
  runs_after_finish late = grind (arith, nat_tests)

-- a message that starts at the same tick runs at the same ticks
pub runs_same : (work : Work) (start later : ℕ → ℕ) (t m : ℕ) → start m ≡ later m → runs_at work start t m ≡ runs_at work later t m
runs_same work start later t m same = ap (λ s. nat_le s t && nat_lt t (s + work.cost m)) same

-- where the same messages run, as many run
pub running_same : (work : Work) (start later : ℕ → ℕ) (t s : ℕ) → ((m : ℕ) → IsNumber work m → runs_at work start t m ≡ runs_at work later s m)
    → running work start t ≡ running work later s
running_same work start later t s h =
    count_same (runs_at work start t) (runs_at work later s) 1 work.count (λ m low high. h m (record { from = low; to = omega arith }))

-- where none runs, there is none
pub running_none : (work : Work) (start : ℕ → ℕ) (t : ℕ) → ((m : ℕ) → IsNumber work m → runs_at work start t m ≡ false) → running work start t ≡ 0
running_none work start t h = count_none (runs_at work start t) 1 work.count (λ m low high. h m (record { from = low; to = omega arith }))

-- one holds its worker when the other starts, whichever of the two it is
seats_apart : (work : Work) (start worker : ℕ → ℕ) (t i j : ℕ) → IsNumber work i → IsNumber work j → i < j
    → runs_at work start t i ≡ true → runs_at work start t j ≡ true → IsSeated work start worker i → IsSeated work start worker j
    → worker i ≢ worker j
seats_apart work start worker t i j number_i number_j less runs_i runs_j seat_i seat_j =
    let at_i = runs_parts work start t i runs_i in
    let at_j = runs_parts work start t j runs_j in
    elim (cases_lt (start j) (start i)) [
      | inl later ↦
          let runs = runs_from work start (start i) j (omega arith) (omega (arith, at_i.0, at_j.1)) in
          λ same. seat_i.free j (record { number = number_j; sooner = inl later; runs = runs }) (sym same)
      | inr sooner ↦
          let first : ComesBefore start i j = elim (cases_lt (start i) (start j)) [ inl before ↦ inl before | inr after ↦ inr (omega arith, less) ] in
          seat_j.free i (record { number = number_i; sooner = first; runs = runs_from work start (start j) i sooner (omega (arith, at_j.0, at_i.1)) })
    ]

-- at the tick t each message that runs has its worker, one of k
pub record AreSeatedAt (work : Work) (k : ℕ) (start worker : ℕ → ℕ) (t : ℕ) : Type 0 where
  pub seated : (m : ℕ) → IsNumber work m → runs_at work start t m ≡ true → IsSeated work start worker m
  pub within : (m : ℕ) → IsNumber work m → runs_at work start t m ≡ true → worker m ≤ k

module _ (work : Work) (k : ℕ) (start worker : ℕ → ℕ) (t : ℕ) (h : AreSeatedAt work k start worker t) where
  number_of : (m : ℕ) → 1 ≤ m → m < 1 + work.count → IsNumber work m
  number_of m low high = record { from = low; to = omega arith }

  apart : (i j : ℕ) → 1 ≤ i → i < j → j < 1 + work.count → runs_at work start t i ≡ true → runs_at work start t j ≡ true → worker i ≢ worker j
  apart i j low less high runs_i runs_j =
      let number_i = number_of i low (omega arith) in
      let number_j = number_of j (omega arith) high in
      seats_apart work start worker t i j number_i number_j less runs_i runs_j (h.seated i number_i runs_i) (h.seated j number_j runs_j)

  from_one : (m : ℕ) → 1 ≤ m → m < 1 + work.count → runs_at work start t m ≡ true → 1 ≤ worker m
  from_one m low high runs = (h.seated m (number_of m low high) runs).from

  to_k : (m : ℕ) → 1 ≤ m → m < 1 + work.count → runs_at work start t m ≡ true → worker m ≤ k
  to_k m low high runs = h.within m (number_of m low high) runs

  -- at most k run
  pub running_within : running work start t ≤ k
  running_within = runs_within (runs_at work start t) worker 1 work.count apart from_one k to_k

  -- where each worker runs a message, k run
  pub running_all : ((w : ℕ) → 1 ≤ w → w ≤ k → (m : ℕ) × IsNumber work m × (runs_at work start t m ≡ true) × (worker m ≡ w)) → running work start t ≡ k
  running_all each = runs_on_all (runs_at work start t) worker 1 work.count apart from_one k to_k
      (λ w some less.
      let there = each w some less in
      (there.0, there.1.from, omega (arith, there.1.to), there.2, there.3))

  -- where a worker runs none, fewer than k run
  pub running_fewer : (w : ℕ) → 1 ≤ w → w ≤ k → ((m : ℕ) → IsNumber work m → runs_at work start t m ≡ true → worker m ≢ w) → running work start t < k
  running_fewer w some less none = runs_not_on (runs_at work start t) worker 1 work.count apart from_one k w to_k some less
      (λ m low high runs. none m (number_of m low high) runs)

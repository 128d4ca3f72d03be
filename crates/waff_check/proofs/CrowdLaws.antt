-- A tick at which many messages run: the latest start of one of them is another such tick.
use Rattle.std.proofs.Common.{◌≡◌, ℕ, zero, suc, ◌+◌, ◌<◌, ◌≤◌, ◌⊎◌, inl, inr, List, [], ◌∷◌, true, false, cond, nat_le, nat_lt, sum_by, Option, Some, None, refl, ap, ◌∙◌, arith, MatchOption}
use Rattle.std.proofs.lemmas.Bool.{and_parts, and_from, cases_Bool, cases_lt, ltb-true, ltb-false, leb-true, le-leb, lt-ltb}
use Rattle.std.proofs.lemmas.List.Sums.{sum_by-cons}
use Rattle.waff_plan.specs.Work.{IsNumber, Work, finish_of, numbers}
use Rattle.waff_plan.specs.Workers.{running, runs_at}
use Rattle.waff_plan.proofs.Ticks.{sum_by-numbers-le}
use Rattle.waff_check.specs.Crowds.{with_tick}
use Rattle.waff_check.specs.Faults.{IsCrowded, IsLeastOf, NoneOf}

sum-zero : (xs : List ℕ) → sum_by (λ _. 0) xs ≡ 0
sum-zero [] = refl
sum-zero (x ∷ xs) = sum_by-cons (λ _. 0) x xs ∙ ap (λ n. 0 + n) (sum-zero xs)

module _ (work : Work) (start : ℕ → ℕ) where
  -- what a message that runs at a tick says of its start and its finish
  pub runs-parts : (t m : ℕ) → runs_at work start t m ≡ true → (start m ≤ t) × (t < finish_of work start m)
  runs-parts t m h = let p = and_parts (nat_le (start m) t) (nat_lt t (finish_of work start m)) h in (leb-true _ _ p.0, ltb-true _ _ p.1)

  pub runs-from : (t m : ℕ) → start m ≤ t → t < finish_of work start m → runs_at work start t m ≡ true
  runs-from t m le lt = and_from (nat_le (start m) t) (nat_lt t (finish_of work start m)) (le-leb _ _ le) (lt-ltb _ _ lt)

  -- the latest start of the first k messages that run at t
  abbrev Latest : ℕ → ℕ → ℕ → Type 0
  Latest t k m = (1 ≤ m) × (m ≤ k) × (runs_at work start t m ≡ true) × ((n : ℕ) → 1 ≤ n → n ≤ k → runs_at work start t n ≡ true → start n ≤ start m)

  abbrev Idle : ℕ → ℕ → Type 0
  Idle t k = (m : ℕ) → 1 ≤ m → m ≤ k → runs_at work start t m ≡ true → ⊥

  latest : (t k : ℕ) → Idle t k ⊎ ((m : ℕ) × Latest t k m)
  latest t zero = inl (λ m from to h. omega arith)
  latest t (suc k) = by (latest t k) (cases_Bool (runs_at work start t (suc k)))
    where
      here : (m : ℕ) → m ≤ suc k → (m ≤ k) ⊎ (m ≡ suc k)
      here m le = elim (cases_lt k m) [ inl lt ↦ inr (omega arith) | inr ge ↦ inl ge ]

      by : Idle t k ⊎ ((m : ℕ) × Latest t k m) → (runs_at work start t (suc k) ≡ true) ⊎ (runs_at work start t (suc k) ≡ false) → Idle t (suc k) ⊎ ((m : ℕ) × Latest t (suc k) m)
      by (inl idle) (inl runs) = inr (suc k, (omega arith, omega arith, runs, λ n from to h. elim (here n to) [ inl le ↦ absurd (idle n from le h) | inr e ↦ (rw e (omega arith)) ]))
      by (inl idle) (inr rests) = inl (λ m from to h. elim (here m to) [ inl le ↦ idle m from le h | inr e ↦ (let r = rw e at h in cc (r, rests)) ])
      by (inr (m, l)) (inl runs) = elim (cases_lt (start m) (start (suc k))) [
        | inl lt ↦ inr (suc k, (omega arith, omega arith, runs, λ n from to h. elim (here n to) [ inl le ↦ (let old = l.3 n from le h in omega arith) | inr e ↦ (rw e (omega arith)) ]))
        | inr ge ↦ inr (m, (l.0, omega arith, l.2, λ n from to h. elim (here n to) [ inl le ↦ l.3 n from le h | inr e ↦ (rw e ge) ]))
      ]
      by (inr (m, l)) (inr rests) = inr (m, (l.0, omega arith, l.2, λ n from to h. elim (here n to) [ inl le ↦ l.3 n from le h | inr e ↦ (let r = rw e at h in absurd (cc (r, rests))) ]))

  -- where more than k messages run at a tick, more than k run at the latest start of one of them
  pub crowded-start : (k t : ℕ) → k < running work start t → (m : ℕ) × (IsNumber work m) × (start m ≤ t) × (k < running work start (start m))
  crowded-start k t many = by (latest t work.count)
    where
      by : Idle t work.count ⊎ ((m : ℕ) × Latest t work.count m) → (m : ℕ) × (IsNumber work m) × (start m ≤ t) × (k < running work start (start m))
      by (inl idle) =
          let none : running work start t ≤ sum_by (λ _. 0) (numbers work) = sum_by-numbers-le work (λ m. cond (runs_at work start t m) 1 0) (λ _. 0)
          (λ m n. elim (cases_Bool (runs_at work start t m)) [ inl runs ↦ absurd (idle m n.from n.to runs) | inr rests ↦ (rw rests (omega arith)) ]) in
          absurd (omega (arith, sum-zero (numbers work)))
      by (inr (m, l)) =
          let at = runs-parts t m l.2 in
          let more : running work start t ≤ running work start (start m) = sum_by-numbers-le work (λ n. cond (runs_at work start t n) 1 0) (λ n. cond (runs_at work start (start m) n) 1 0)
          (λ n h. elim (cases_Bool (runs_at work start t n)) [
            | inl runs ↦ (let p = runs-parts t n runs in
                let early = l.3 n h.from h.to runs in
                let also : runs_at work start (start m) n ≡ true = runs-from (start m) n early (omega arith) in
                rw (runs, also) (omega arith))
            | inr rests ↦ (rw rests (omega arith))
          ]) in
          (m, record { from = l.0; to = l.1 }, at.0, omega arith)

  -- the first of the starts of the messages below n at which more than k messages run
  abbrev pub Found : ℕ → ℕ → Option ℕ → Type 0
  Found k n None = (m : ℕ) → 1 ≤ m → m < n → k < running work start (start m) → ⊥
  Found k n (Some t) = (k < running work start t) × ((m : ℕ) → 1 ≤ m → m < n → k < running work start (start m) → t ≤ start m)

  same-or-below : (m n : ℕ) → m < n + 1 → (m < n) ⊎ (m ≡ n)
  same-or-below m n lt = elim (cases_lt m n) [ inl less ↦ inl less | inr ge ↦ inr (omega arith) ]

  -- one more start
  pub found-more : (k n : ℕ) (first : Option ℕ) → Found k n first → Found k (n + 1) (with_tick work start k first (start n))
  found-more k n None found = by (cases_Bool (nat_lt k (running work start (start n))))
    where
      by : (nat_lt k (running work start (start n)) ≡ true) ⊎ (nat_lt k (running work start (start n)) ≡ false) → Found k (n + 1) (with_tick work start k None (start n))
      by (inl many) = rw many (ltb-true _ _ many, λ m from lt h. elim (same-or-below m n lt) [ inl less ↦ absurd (found m from less h) | inr e ↦ (rw e (omega arith)) ])
      by (inr few) = rw few (λ m from lt h. elim (same-or-below m n lt) [ inl less ↦ found m from less h | inr e ↦ (let g = rw e at h in let le = ltb-false _ _ few in omega arith) ])
  found-more k n (Some t) found = by (cases_Bool (nat_lt (start n) t)) (cases_Bool (nat_lt k (running work start (start n))))
    where
      by : (nat_lt (start n) t ≡ true) ⊎ (nat_lt (start n) t ≡ false) → (nat_lt k (running work start (start n)) ≡ true) ⊎ (nat_lt k (running work start (start n)) ≡ false)
          → Found k (n + 1) (with_tick work start k (Some t) (start n))
      by (inl early) (inl many) =
          let lt' = ltb-true _ _ early in
          rw (early, many) (ltb-true _ _ many, λ m from lt h. elim (same-or-below m n lt) [ inl less ↦ (let old = found.1 m from less h in omega arith) | inr e ↦ (rw e (omega arith)) ])
      by (inl early) (inr few) = rw (early, few) (found.0, λ m from lt h. elim (same-or-below m n lt) [ inl less ↦ found.1 m from less h | inr e ↦ (let g = rw e at h in let le = ltb-false _ _ few in absurd (omega arith)) ])
      by (inr late) x =
          let ge = ltb-false _ _ late in
          rw late (found.0, λ m from lt h. elim (same-or-below m n lt) [ inl less ↦ found.1 m from less h | inr e ↦ (rw e ge) ])

  -- all starts: the first tick of all
  pub found-all : (k n : ℕ) (first : Option ℕ) → work.count < n → Found k n first
      → MatchOption first (NoneOf (IsCrowded work start (Some k))) (IsLeastOf (IsCrowded work start (Some k)))
  found-all k n None all found = λ t many. let s = crowded-start k t many in let to = s.1.to in found s.0 s.1.from (omega arith) s.3
  found-all k n (Some t) all found = record {
    holds = found.0;
    least = λ u many. let s = crowded-start k u many in let to = s.1.to in let le = found.1 s.0 s.1.from (omega arith) s.3 in let at = s.2 in omega arith;
  }

-- Shifts that follow one another, and workers that are right.
use Rattle.std.proofs.Common.{◌≡◌, ◌≢◌, ℕ, zero, suc, ◌+◌, ◌-◌, ◌<◌, ◌≤◌, Bool, false, List, length, Option, Some, None, arith, refl, sym, ◌∙◌, ap, subst, inl, inr, cond, nat_lt, nat_eq}
use Rattle.std.specs.Ordering.{nat_cmp, is_lt, ordering_then}
use Rattle.std.specs.declared.cmp.Ordering.TheVariants.{Less, Equal, Greater}
use Rattle.std.proofs.lemmas.List.{get_or_default}
use Rattle.std.proofs.lemmas.Bool.{cases_lt, cond-true, cond-false, lt-ltb, le-ltb, eq-eqb, false≢true}
use Rattle.waff_plan.specs.Work.{Work, IsNumber, finish_of}
use Rattle.waff_check.specs.Faults.{HasWrongWorker, IsMisplaced, IsTaken, NoneOf, RunTogether}
use Rattle.waff_check.specs.Shifts.{AreApart, AreShifts, IsOneOf, IsShift, first_of, shift_at, shift_of}
use Rattle.waff_check.specs.declared.shifts.Shift.{Shift}
use Rattle.waff_check.proofs.CrowdLaws.{runs-from, runs-parts}

-- what a sort says of neighbours: the workers do not fall, nor the starts of one worker
abbrev pub shift_less : Shift → Shift → Bool
shift_less a b = is_lt (ordering_then (nat_cmp a.worker b.worker) (nat_cmp a.start b.start))

less-is : (x y : ℕ) → x < y → nat_cmp x y ≡ Less
less-is x y less = cond-true (nat_lt x y) Less (cond (nat_eq x y) Equal Greater) (lt-ltb x y less)

equal-is : (x y : ℕ) → x ≡ y → nat_cmp x y ≡ Equal
equal-is x y same = cond-false (nat_lt x y) Less (cond (nat_eq x y) Equal Greater) (le-ltb x y (omega arith)) ∙ cond-true (nat_eq x y) Equal Greater (eq-eqb x y same)

pub not-less-worker : (a b : Shift) → shift_less a b ≡ false → b.worker ≤ a.worker
not-less-worker a b h = elim (cases_lt a.worker b.worker) [
  | inl lt ↦ absurd (false≢true (sym h ∙ ap (λ o. is_lt (ordering_then o (nat_cmp a.start b.start))) (less-is a.worker b.worker lt)))
  | inr ge ↦ ge
]

pub not-less-start : (a b : Shift) → shift_less a b ≡ false → a.worker ≡ b.worker → b.start ≤ a.start
not-less-start a b h same = elim (cases_lt a.start b.start) [
  | inl lt ↦ absurd (false≢true (sym h ∙ ap (λ o. is_lt (ordering_then o (nat_cmp a.start b.start))) (equal-is a.worker b.worker same)
      ∙ ap is_lt (less-is a.start b.start lt)))
  | inr ge ↦ ge
]

module _ (shifts : List Shift) (sorted : (i : ℕ) → i + 1 < length shifts → shift_less (shift_at shifts (i + 1)) (shift_at shifts i) ≡ false) where
  -- workers do not fall along the shifts
  workers-from : (i k : ℕ) → i + k < length shifts → (shift_at shifts i).worker ≤ (shift_at shifts (i + k)).worker
  workers-from i zero lt = let same : i + 0 ≡ i = omega arith in rw same (omega arith)
  workers-from i (suc k) lt =
      let old = workers-from i k (omega arith) in
      let step = not-less-worker (shift_at shifts (i + k + 1)) (shift_at shifts (i + k)) (sorted (i + k) (omega arith)) in
      let next : i + suc k ≡ i + k + 1 = omega arith in
      rw next (omega arith)

  pub by-worker : (i j : ℕ) → i ≤ j → j < length shifts → (shift_at shifts i).worker ≤ (shift_at shifts j).worker
  by-worker i j le lt =
      let at : i + (j - i) ≡ j = omega arith in
      subst (λ n. (shift_at shifts i).worker ≤ (shift_at shifts n).worker) at (workers-from i (j - i) (omega arith))

  -- nor do starts, among the shifts of one worker
  starts-from : (i k : ℕ) → i + k < length shifts → (shift_at shifts i).worker ≡ (shift_at shifts (i + k)).worker → (shift_at shifts i).start ≤ (shift_at shifts (i + k)).start
  starts-from i zero lt same = let here : i + 0 ≡ i = omega arith in rw here (omega arith)
  starts-from i (suc k) lt same =
      let next : i + suc k ≡ i + k + 1 = omega arith in
      let one : (shift_at shifts i).worker ≡ (shift_at shifts (i + k + 1)).worker = rw next at same in
      let before = workers-from i k (omega arith) in
      let step = not-less-worker (shift_at shifts (i + k + 1)) (shift_at shifts (i + k)) (sorted (i + k) (omega arith)) in
      let old = starts-from i k (omega arith) (omega arith) in
      let here = not-less-start (shift_at shifts (i + k + 1)) (shift_at shifts (i + k)) (sorted (i + k) (omega arith)) (omega arith) in
      rw next (omega arith)

  pub by-start : (i j : ℕ) → i ≤ j → j < length shifts → (shift_at shifts i).worker ≡ (shift_at shifts j).worker → (shift_at shifts i).start ≤ (shift_at shifts j).start
  by-start i j le lt =
      let at : i + (j - i) ≡ j = omega arith in
      subst (λ n. (shift_at shifts i).worker ≡ (shift_at shifts n).worker → (shift_at shifts i).start ≤ (shift_at shifts n).start) at (starts-from i (j - i) (omega arith))

module _ (work : Work) (start : ℕ → ℕ) (worker : ℕ → Option ℕ) (k : ℕ) (none : NoneOf (HasWrongWorker work start worker (Some k))) where
  -- no message has a worker that is taken
  pub not-taken : (n i w : ℕ) → IsNumber work n → worker n ≡ Some w → IsTaken work start worker w n i → ⊥
  not-taken n i w number is taken =
      let wrong : IsMisplaced work start worker (Some k) n (worker n) = rw is (inr (inr (i, taken))) in
      none n (record { number = number; wrong = wrong })

  -- and each has one of the workers
  pub seated-where-right : (n : ℕ) → IsNumber work n → IsOneOf k (worker n)
  seated-where-right n number = by (worker n) (λ wrong. none n (record { number = number; wrong = wrong }))
    where
      by : (o : Option ℕ) → (IsMisplaced work start worker (Some k) n o → ⊥) → IsOneOf k o
      by None right = absurd (right tt)
      by (Some w) right = (
        elim (cases_lt w 1) [ inl low ↦ absurd (right (inl low)) | inr ge ↦ ge ],
        elim (cases_lt k w) [ inl high ↦ absurd (right (inr (inl high))) | inr le ↦ le ],
      )

module _ (work : Work) (start : ℕ → ℕ) (worker : ℕ → Option ℕ) (shifts : List Shift) (are : AreShifts work start worker shifts) where
  -- a shift has ended when any later one of its worker begins
  ended : AreApart work start shifts → (p q : ℕ) → p < q → q < length shifts → (shift_at shifts p).worker ≡ (shift_at shifts q).worker
      → finish_of work start (shift_at shifts p).number ≤ (shift_at shifts q).start
  ended apart p q before lt same =
      let low = are.by_worker p (p + 1) (omega arith) (omega arith) in
      let high = are.by_worker (p + 1) q (omega arith) lt in
      let next : finish_of work start (shift_at shifts p).number ≤ (shift_at shifts (p + 1)).start = apart p (omega arith) (omega arith) in
      let later = are.by_start (p + 1) q (omega arith) lt (omega arith) in
      omega (arith, next, later)

  -- so a message has finished when any later one of its worker starts
  finished : AreApart work start shifts → (w n m p q : ℕ) → p < q → q < length shifts → shift_at shifts p ≡ shift_of w (start n) n → shift_at shifts q ≡ shift_of w (start m) m
      → finish_of work start n ≤ start m
  finished apart w n m p q before lt one next =
      let same : (shift_at shifts p).worker ≡ (shift_at shifts q).worker = rw (one, next) refl in
      let order = ended apart p q before lt same in
      rw (one, next) at order

  -- the place of a message
  place : (n w : ℕ) → IsNumber work n → worker n ≡ Some w → start n < finish_of work start n → (p : ℕ) × (p < length shifts) × (shift_at shifts p ≡ shift_of w (start n) n)
  place n w number is runs =
      let at = are.each n w number is runs in
      (at.0, at.1, get_or_default shifts at.0 (shift_of 0 0 0) (shift_of w (start n) n) at.1 ∙ at.2)

  -- two messages of one worker do not run at a common tick
  not-together : AreApart work start shifts → (w i j : ℕ) → IsNumber work i → IsNumber work j → i ≢ j → worker i ≡ Some w → worker j ≡ Some w
      → RunTogether work start i j → ⊥
  not-together apart w i j ni nj other wi wj (t, ri, rj) =
      let one = runs-parts work start t i ri in
      let two = runs-parts work start t j rj in
      let p = place i w ni wi (omega arith) in
      let q = place j w nj wj (omega arith) in
      elim (cases_lt p.0 q.0) [
        | inl lt ↦ (let order = finished apart w i j p.0 q.0 lt q.1 p.2 q.2 in omega (arith, order))
        | inr ge ↦ elim (cases_lt q.0 p.0) [
          | inl lt ↦ (let order = finished apart w j i q.0 p.0 lt p.1 q.2 p.2 in omega (arith, order))
          | inr le ↦ (let same : p.0 ≡ q.0 = omega arith in other (ap (λ (s : Shift). s.number) (sym p.2 ∙ ap (λ n. shift_at shifts n) same ∙ q.2)))
        ]
      ]

  -- where the workers are some of k and the shifts follow one another, every worker is right
  pub right : (k : ℕ) → ((n : ℕ) → IsNumber work n → IsOneOf k (worker n)) → AreApart work start shifts → NoneOf (HasWrongWorker work start worker (Some k))
  right k seated apart n h = by (worker n) refl (seated n h.number) h.wrong
    where
      by : (o : Option ℕ) → worker n ≡ o → IsOneOf k o → IsMisplaced work start worker (Some k) n o → ⊥
      by None e none wrong = none
      by (Some w) e one (inl low) = let from = one.0 in omega arith
      by (Some w) e one (inr (inl high)) = let to = one.1 in omega arith
      by (Some w) e one (inr (inr (i, taken))) =
          let earlier : i < n = taken.earlier in
          let to : n ≤ work.count = h.number.to in
          not-together apart w i n (record { from = taken.from; to = omega arith }) h.number (omega arith) taken.same e taken.together

  -- where a shift has not ended when the next of its worker begins, a message has a wrong worker
  pub apart-where-right : (k : ℕ) → NoneOf (HasWrongWorker work start worker (Some k)) → AreApart work start shifts
  apart-where-right k none i lt same = elim (cases_lt (shift_at shifts (i + 1)).start (finish_of work start (shift_at shifts i).number)) [
    | inl early ↦ absurd (clash early)
    | inr le ↦ le
  ]
    where
      clash : (shift_at shifts (i + 1)).start < finish_of work start (shift_at shifts i).number → ⊥
      clash early =
          let s = shift_at shifts i in
          let t = shift_at shifts (i + 1) in
          let one : IsShift work start worker s = are.only i (shift_of 0 0 0) (omega arith) in
          let two : IsShift work start worker t = are.only (i + 1) (shift_of 0 0 0) lt in
          let starts : s.start ≤ t.start = are.by_start i (i + 1) (omega arith) lt same in
          let at : start s.number ≡ s.start = one.same_start in
          let here : start t.number ≡ t.start = two.same_start in
          let goes = two.runs in
          let first = runs-from work start t.start s.number (omega arith) early in
          let second = runs-from work start t.start t.number (omega arith) (omega (arith, goes, here)) in
          let apart : s.number ≢ t.number = are.once i (i + 1) (omega arith) lt in
          elim (cases_lt s.number t.number) [
            | inl less ↦ not-taken work start worker k none t.number s.number t.worker two.number two.same_worker
                (record { from = one.number.from; earlier = less; same = one.same_worker ∙ ap Some same; together = (t.start, first, second) })
            | inr more ↦ not-taken work start worker k none s.number t.number s.worker one.number one.same_worker
                (record { from = two.number.from; earlier = omega (arith, apart); same = two.same_worker ∙ ap Some (sym same); together = (t.start, second, first) })
          ]

module _ (work : Work) (start : ℕ → ℕ) (worker : ℕ → Option ℕ) (workers : Option ℕ) where
  -- what is wrong with a message is wrong among the first messages
  misplaced-first : (many n : ℕ) (k o : Option ℕ) → IsMisplaced work start worker k n o → IsMisplaced (first_of work many) start worker k n o
  misplaced-first many n None None wrong = wrong
  misplaced-first many n None (Some w) wrong = wrong
  misplaced-first many n (Some k) None wrong = wrong
  misplaced-first many n (Some k) (Some w) (inl low) = inl low
  misplaced-first many n (Some k) (Some w) (inr (inl high)) = inr (inl high)
  misplaced-first many n (Some k) (Some w) (inr (inr (i, taken))) =
      inr (inr (i, record { from = taken.from; earlier = taken.earlier; same = taken.same; together = taken.together }))

  -- where the first messages have right workers, none of them has a wrong one
  pub right-below : (many : ℕ) → NoneOf (HasWrongWorker (first_of work many) start worker workers)
      → (n : ℕ) → n < many + 1 → HasWrongWorker work start worker workers n → ⊥
  right-below many none n below h =
      none n (record { number = record { from = h.number.from; to = omega arith }; wrong = misplaced-first many n workers (worker n) h.wrong })

  -- nothing is wrong with no message
  pub right-none : NoneOf (HasWrongWorker (first_of work 0) start worker workers)
  right-none n h = let from = h.number.from in let to = h.number.to in omega (arith, from, to)

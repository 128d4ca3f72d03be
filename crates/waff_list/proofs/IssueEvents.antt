-- The ticks at which messages finish or are issued are so many that the planner ends, and so close that no tick is too late.
use Rattle.std.proofs.Common.{◌≡◌, ℕ, ◌+◌, ◌*◌, ◌<◌, ◌≤◌, ◌⊎◌, inl, inr, List, [], ◌∷◌, map, nat_lt, count_by, length, All, Contains, arith, refl, ap}
use Rattle.std.proofs.lemmas.Bool.{cases_lt, ltb-true, lt-ltb, le-ltb}
use Rattle.std.proofs.lemmas.List.Elements.{All-contains, All-weaker}
use Rattle.std.proofs.lemmas.List.FromFn.{length-range_with_len}
use Rattle.std.proofs.lemmas.List.Sums.{count_by-le-length}
use Rattle.waff_model.specs.declared.limits.TheConstants.{MAX_COST, MAX_MESSAGES, MAX_RELEASE, MAX_THINK, MAX_TICK}
use Rattle.waff_plan.specs.Timing.{start_of}
use Rattle.waff_plan.specs.Work.{Await, Work, IsAwaited, IsNumber, numbers, finish_of, gap_after, holds_until, issue_after, issue_of}
use Rattle.waff_plan.proofs.Holding.{awaited-le-issue, gap_same, same_issue}
use Rattle.waff_list.specs.Progress.{IsSmall}
use Rattle.waff_list.specs.Issuing.{AreIssues, IsLastEvent, IsNextEvent}
use Rattle.waff_list.specs.Waiting.{Runs, AreFinishes}
use Rattle.waff_plan.specs.declared.due.TheConstants.{NEVER}
use Rattle.waff_waits.proofs.Each.{contains_map, contains_mapped, each_there}
use Rattle.waff_list.proofs.Uniqueness.{AwaitsMessages, counts_le, counts_lt}

-- how many messages finish after now, and how many are issued after now
abbrev ends_after : Work → (ℕ → ℕ) → ℕ → ℕ
ends_after work start now = count_by (λ m. nat_lt now (finish_of work start m)) (numbers work)

abbrev issues_after : Work → (ℕ → ℕ) → ℕ → ℕ
issues_after work start now = count_by (λ m. nat_lt now (issue_of work start m)) (numbers work)

abbrev pub steps_after : Work → (ℕ → ℕ) → ℕ → ℕ
steps_after work start now = ends_after work start now + issues_after work start now

-- no tick comes too late for the messages that are left
abbrev pub IsInTime : Work → (ℕ → ℕ) → ℕ → Type 0
IsInTime work start now =
    now + (MAX_COST * ends_after work start now + MAX_THINK * issues_after work start now) ≤ MAX_RELEASE + (MAX_COST + MAX_THINK) * work.count

few_by : (work : Work) (tick : ℕ → ℕ) (now : ℕ) → count_by (λ m. nat_lt now (tick m)) (numbers work) ≤ work.count
few_by work tick now =
    let few = count_by-le-length (λ m. nat_lt now (tick m)) (numbers work) in
    let long : length (numbers work) ≡ work.count = length-range_with_len 1 work.count in
    omega (arith, few, long)

-- at the beginning, and at a release
pub in_time_none : (work : Work) (start : ℕ → ℕ) (now : ℕ) → now ≤ MAX_RELEASE → IsInTime work start now
in_time_none work start now early = omega (arith, few_by work (finish_of work start) now, few_by work (issue_of work start) now, early)

-- so each tick can be printed
pub in_time_early : (work : Work) (start : ℕ → ℕ) (now : ℕ) → work.count ≤ MAX_MESSAGES → IsInTime work start now → now ≤ MAX_TICK
in_time_early work start now few h = omega (arith, few, h)

cases_by : (finish : ℕ → ℕ) (floor : ℕ) (awaits : List Await)
    → (issue_after finish floor awaits ≡ floor) ⊎ ((i : ℕ) × IsAwaited awaits i × (issue_after finish floor awaits ≤ finish i + gap_after i awaits))
cases_by finish floor [] = inl refl
cases_by finish floor (a ∷ rest) = elim (cases_lt (issue_after finish floor rest) (finish a.message + a.gap)) [
  | inl less ↦ inr (a.message, inl refl, omega (arith, gap_same a a.message refl))
  | inr more ↦ elim (cases_by finish floor rest) [
    | inl is ↦ inl (omega (arith, is, more))
    | inr (i, is, within) ↦ inr (i, inr is, omega (arith, within, more))
  ]
]

-- a message is issued at its release, or the gap after one that it awaits
pub issue_cases : (work : Work) (start : ℕ → ℕ) (m : ℕ) → (issue_of work start m ≡ work.floor m)
    ⊎ ((i : ℕ) × IsAwaited (work.awaits m) i × (issue_of work start m ≡ holds_until work start m i))
issue_cases work start m = elim (cases_by (finish_of work start) (work.floor m) (work.awaits m)) [
  | inl release ↦ inl release
  | inr (i, is, within) ↦ inr (i, is, omega (arith, within, awaited-le-issue work start i m is))
]

module _ (work : Work) (awaited : AwaitsMessages work) (small : IsSmall work)
    (old starts : List ℕ) (now next : ℕ)
    (placed : (m : ℕ) → IsNumber work m → (start_of old m ≤ now) ⊎ (start_of old m ≡ NEVER))
    (kept : (m : ℕ) → IsNumber work m → start_of old m ≤ now → start_of starts m ≡ start_of old m)
    (after : (m : ℕ) → IsNumber work m → (start_of starts m ≤ now) ⊎ (start_of starts m ≡ NEVER))
    (finishes : List (ℕ × ℕ)) (running : AreFinishes work (start_of starts) now finishes) (tick : IsNextEvent work (start_of starts) finishes now next) where
  -- a finish or an issue after the next tick came after now before
  finish_back : (m : ℕ) → IsNumber work m → now < finish_of work (start_of starts) m → now < finish_of work (start_of old) m
  finish_back m number later = elim (placed m number) [
    | inl early ↦ rw (kept m number early) at later
    | inr never ↦ omega (arith, tick.tick, tick.later)
  ]

  issue_back : (m : ℕ) → now < issue_of work (start_of starts) m → now < issue_of work (start_of old) m
  issue_back m later = elim (cases_lt now (issue_of work (start_of old) m)) [
    | inl is ↦ is
    | inr early ↦
        let same = same_issue work (start_of starts) (start_of old) m
        (λ i is. kept i (awaited i m is) (omega (arith, awaited-le-issue work (start_of old) i m is, early))) in
        omega (arith, same, later, early)
  ]

  -- the next tick is that of a message that starts by now and finishes, of a release, or a gap away
  abbrev Ends : Type 0
  Ends = (m : ℕ) × IsNumber work m × (start_of starts m ≤ now) × (finish_of work (start_of starts) m ≡ next)

  abbrev Issues : Type 0
  Issues = (m : ℕ) × IsNumber work m × (issue_of work (start_of starts) m ≡ next) × ((next ≤ MAX_RELEASE) ⊎ (next ≤ now + MAX_THINK))

  event : Ends ⊎ Issues
  event = elim tick.one [
    | inl there ↦ let runs = All-contains (Runs work (start_of starts) now) finishes (next, there.0) running.only there.1 in inl (there.0, runs.0, runs.1, runs.3)
    | inr (m, number, is) ↦ elim (issue_cases work (start_of starts) m) [
      | inl release ↦ inr (m, number, is, inl (omega (arith, is, release, small.floor m number)))
      | inr (i, awaits, sum) ↦
          let i_number = awaited i m awaits in
          elim (cases_lt now (finish_of work (start_of starts) i)) [
            | inr done ↦ inr (m, number, is, inr (omega (arith, is, sum, done, small.gap i m number)))
            | inl late ↦ elim (after i i_number) [
              | inr never ↦ absurd (omega (arith, is, sum, never, tick.tick))
              | inl begun ↦
                  let first = All-contains (λ (r : ℕ × ℕ). next ≤ r.0) finishes (finish_of work (start_of starts) i, i) tick.first (running.each i i_number begun late) in
                  inl (i, i_number, begun, omega (arith, is, sum, first))
            ]
          ]
    ]
  ]

  ends_fewer : (m : ℕ) → IsNumber work m → finish_of work (start_of starts) m ≡ next → ends_after work (start_of starts) next < ends_after work (start_of old) now
  ends_fewer m number finish =
      let past = tick.later in
      counts_lt (λ x. nat_lt next (finish_of work (start_of starts) x)) (λ x. nat_lt now (finish_of work (start_of old) x)) work.count m
      (λ i i_number is. lt-ltb now (finish_of work (start_of old) i) (finish_back i i_number (omega (arith, past, ltb-true next (finish_of work (start_of starts) i) is))))
      number (le-ltb next (finish_of work (start_of starts) m) (omega (arith, finish)))
      (lt-ltb now (finish_of work (start_of old) m) (finish_back m number (omega (arith, finish, past))))

  ends_no_more : ends_after work (start_of starts) next ≤ ends_after work (start_of old) now
  ends_no_more =
      let past = tick.later in
      counts_le (λ x. nat_lt next (finish_of work (start_of starts) x)) (λ x. nat_lt now (finish_of work (start_of old) x)) work.count
      (λ i i_number is. lt-ltb now (finish_of work (start_of old) i) (finish_back i i_number (omega (arith, past, ltb-true next (finish_of work (start_of starts) i) is))))

  issues_fewer : (m : ℕ) → IsNumber work m → issue_of work (start_of starts) m ≡ next → issues_after work (start_of starts) next < issues_after work (start_of old) now
  issues_fewer m number issue =
      let past = tick.later in
      counts_lt (λ x. nat_lt next (issue_of work (start_of starts) x)) (λ x. nat_lt now (issue_of work (start_of old) x)) work.count m
      (λ i i_number is. lt-ltb now (issue_of work (start_of old) i) (issue_back i (omega (arith, past, ltb-true next (issue_of work (start_of starts) i) is))))
      number (le-ltb next (issue_of work (start_of starts) m) (omega (arith, issue)))
      (lt-ltb now (issue_of work (start_of old) m) (issue_back m (omega (arith, issue, past))))

  issues_no_more : issues_after work (start_of starts) next ≤ issues_after work (start_of old) now
  issues_no_more =
      let past = tick.later in
      counts_le (λ x. nat_lt next (issue_of work (start_of starts) x)) (λ x. nat_lt now (issue_of work (start_of old) x)) work.count
      (λ i i_number is. lt-ltb now (issue_of work (start_of old) i) (issue_back i (omega (arith, past, ltb-true next (issue_of work (start_of starts) i) is))))

  -- fewer events are left
  pub steps_fewer : steps_after work (start_of starts) next < steps_after work (start_of old) now
  steps_fewer = elim event [
    | inl (m, number, begun, finish) ↦ omega (arith, ends_fewer m number finish, issues_no_more)
    | inr (m, number, issue, soon) ↦ omega (arith, issues_fewer m number issue, ends_no_more)
  ]

  pub in_time_next : IsInTime work (start_of old) now → IsInTime work (start_of starts) next
  in_time_next h = elim event [
    | inl (m, number, begun, finish) ↦ omega (arith, h, small.cost m number, finish, begun, ends_fewer m number finish, issues_no_more)
    | inr (m, number, issue, inl release) ↦ in_time_none work (start_of starts) next release
    | inr (m, number, issue, inr soon) ↦ omega (arith, h, soon, issues_fewer m number issue, ends_no_more)
  ]

-- the next event: the first tick at which a message finishes or is issued
module _ (work : Work) (start : ℕ → ℕ) (finishes issues : List (ℕ × ℕ)) (now next : ℕ) (short : now < NEVER)
    (running : AreFinishes work start now finishes) (are : AreIssues work start now issues)
    (first_finish : All (λ r. next ≤ r.0) finishes) (first_issue : All (λ r. next ≤ r.0) issues) where
  -- a message that is issued after now, and before all ticks are over, is known
  known_late : (m : ℕ) → IsNumber work m → (issue_of work start m ≤ now) ⊎ ((NEVER ≤ issue_of work start m) ⊎ (next ≤ issue_of work start m))
  known_late m number = elim (cases_lt now (issue_of work start m)) [
    | inr early ↦ inl early
    | inl late ↦ elim (cases_lt (issue_of work start m) NEVER) [
      | inr never ↦ inr (inl never)
      | inl soon ↦
          let listed = each_there (λ i. IsNumber work i × (now < issue_of work start i) × (issue_of work start i < NEVER)) (map (λ (r : ℕ × ℕ). r.1) issues) are.each m (number, late, soon) in
          let one = contains_mapped (λ (r : ℕ × ℕ). r.1) issues m listed in
          let least = All-contains (λ (r : ℕ × ℕ). next ≤ r.0) issues one.0 first_issue one.1 in
          let at = All-contains (λ (r : ℕ × ℕ). issue_of work start r.1 ≡ r.0) issues one.0 are.ticks one.1 in
          inr (inr (omega (arith, least, at, ap (issue_of work start) one.2)))
    ]
  ]

  pub last_event : next ≡ NEVER → IsLastEvent work start finishes now
  last_event over = record {
    none = All-weaker (λ (r : ℕ × ℕ). next ≤ r.0) (λ (r : ℕ × ℕ). NEVER ≤ r.0) (λ (r : ℕ × ℕ) least. omega (arith, least, over)) finishes first_finish;
    issues = λ m number. elim (known_late m number) [
      | inl early ↦ inl early
      | inr (inl never) ↦ inr never
      | inr (inr late) ↦ inr (omega (arith, late, over))
    ];
  }

  pub next_event : ((m : ℕ) × (Contains finishes (next, m) ⊎ Contains issues (next, m))) → next < NEVER → IsNextEvent work start finishes now next
  next_event one soon = record {
    later = elim one.1 [
      | inl there ↦ let runs = All-contains (Runs work start now) finishes (next, one.0) running.only there in runs.2
      | inr there ↦ let is = issued there in omega (arith, is.1, is.2)
    ];
    tick = soon;
    first = first_finish;
    issues = λ m number. elim (known_late m number) [
      | inl early ↦ inl early
      | inr (inl never) ↦ inr (omega (arith, never, soon))
      | inr (inr late) ↦ inr late
    ];
    one = elim one.1 [
      | inl there ↦ inl (one.0, there)
      | inr there ↦ let is = issued there in inr (one.0, is.0, is.1)
    ];
  }
    where
      issued : Contains issues (next, one.0) → IsNumber work one.0 × (issue_of work start one.0 ≡ next) × (now < issue_of work start one.0)
      issued there =
          let known = are.each.only one.0 (contains_map (λ (r : ℕ × ℕ). r.1) issues (next, one.0) there) in
          (known.0, All-contains (λ (r : ℕ × ℕ). issue_of work start r.1 ≡ r.0) issues (next, one.0) are.ticks there, known.1)

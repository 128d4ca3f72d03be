-- A message has its start: the issues of those that awaited it and await nothing more are known.
use Rattle.std.proofs.Common.{◌≡◌, ℕ, ◌+◌, ◌^◌, ◌<◌, ◌≤◌, ◌⊎◌, inl, inr, List, [], ◌∷◌, ◌++◌, map, All, Contains, arith, ap, sym, ◌∙◌, subst}
use Rattle.std.specs.List.Sorted.{IsPermutation}
use Rattle.std.proofs.lemmas.Bool.{cases_eq}
use Rattle.std.proofs.lemmas.List.{map-append}
use Rattle.std.proofs.lemmas.List.Elements.{All-append, All-contains, All-contains_itself, All-weaker, Contains-append_cases, Contains-append_left, Contains-push}
use Rattle.std.proofs.lemmas.List.Sorted.{All-permutation, IsPermutation-map}
use Rattle.waff_plan.specs.Awaiting.{AreAwaiting}
use Rattle.waff_plan.specs.Obeys.{AwaitsEarlier}
use Rattle.waff_plan.specs.Work.{Work, IsAwaited, IsNumber, finish_of, issue_of}
use Rattle.waff_plan.specs.declared.due.TheConstants.{NEVER}
use Rattle.waff_plan.proofs.AwaitingLemmas.{IsDue, due_is_free, free_is_due, taken_too, waiting_awaits}
use Rattle.waff_plan.proofs.Holding.{awaited-le-issue, issued_by, same_issue}
use Rattle.waff_waits.specs.Times.{AreEach, times}
use Rattle.waff_waits.specs.Waits.{WhoWaits, waiting_for}
use Rattle.waff_waits.proofs.Each.{contains_map, each_moved, one_of, times_append, times_listed}
use Rattle.waff_waits.proofs.TimesLemmas.{times_none, times_some}
use Rattle.waff_list.specs.Issuing.{AreIssues, AreOpened, IsOpened, after_start}
use Rattle.waff_list.specs.Progress.{IsOrderSoFar, IsSmall}
use Rattle.waff_list.proofs.IssuePlans.{awaits_messages}
use Rattle.waff_list.proofs.LettingGo.{none_before}
use Rattle.waff_list.proofs.Making.{IsMovedTo}

-- message m has its start at now, after those that are placed, and all that is awaited is known
pub record StartsNext (work : Work) (start later : ℕ → ℕ) (now m : ℕ) (order : List ℕ) (awaits : WhoWaits) : Type 0 where
  pub short : now + 2 ^ 33 < NEVER
  pub number : IsNumber work m
  pub never : start m ≡ NEVER
  pub moved : IsMovedTo start later m now
  pub placed : (i : ℕ) → IsNumber work i → (start i ≤ now) ⊎ (start i ≡ NEVER)
  pub listed : IsOrderSoFar work start now order
  pub awaiting : AreAwaiting work order awaits

module _ (work : Work) (follows : AwaitsEarlier work) (small : IsSmall work) (start later : ℕ → ℕ) (now m : ℕ) (order : List ℕ) (awaits : WhoWaits)
    (next : StartsNext work start later now m order awaits) where
  abbrev order_more : List ℕ
  order_more = order ++ m ∷ []

  pub awaiting_more : AreAwaiting work order_more (after_start awaits m)
  awaiting_more = taken_too work follows order awaits next.awaiting m next.number

  -- it was not placed
  apart : Contains order m → ⊥
  apart there = omega (arith, (All-contains (λ x. IsNumber work x × (start x ≤ now)) order m next.listed.messages there).1, next.never, next.short)

  -- those that are placed have started by now, and the others never do
  begun : (i : ℕ) → Contains order_more i → IsNumber work i × (later i ≤ now)
  begun i there = elim (one_of order m i there) [
    | inl before ↦
        let is = All-contains (λ x. IsNumber work x × (start x ≤ now)) order i next.listed.messages before in
        (is.0, omega (arith, next.moved.others i is.0.from (λ same. apart (subst (Contains order) same before)), is.1))
    | inr same ↦ (subst (IsNumber work) (sym same) next.number, omega (arith, ap later same, next.moved.here))
  ]

  pub placed_more : (i : ℕ) → IsNumber work i → (later i ≤ now) ⊎ (later i ≡ NEVER)
  placed_more i i_number = elim (cases_eq i m) [
    | inl same ↦ inl (omega (arith, ap later same, next.moved.here))
    | inr other ↦
        let still = next.moved.others i i_number.from other in
        elim (next.placed i i_number) [ inl early ↦ inl (omega (arith, early, still)) | inr is ↦ inr (still ∙ is) ]
  ]

  is_placed : (i : ℕ) → IsNumber work i → later i < NEVER → Contains order_more i
  is_placed i i_number early = elim (cases_eq i m) [
    | inl same ↦ subst (Contains order_more) (sym same) (Contains-push order m)
    | inr other ↦ elim (next.placed i i_number) [
      | inl is ↦ Contains-append_left order (m ∷ []) i (next.listed.each i i_number is)
      | inr never_starts ↦ absurd (omega (arith, never_starts, next.moved.others i i_number.from other, early))
    ]
  ]

  -- the issue of a message is known where all that it awaits is placed, and only there
  known_of_due : (d : ℕ) → IsDue work order_more d → issue_of work later d < NEVER
  known_of_due d due =
      let soon = issued_by (finish_of work later) (work.floor d) (now + 2 ^ 33) (work.awaits d) (omega (arith, small.floor d due.0))
      (λ i is. let at = begun i (due.1 i is) in omega (arith, at.1, small.cost i at.0, small.gap i d due.0)) in
      omega (arith, soon, next.short)

  due_of_known : (d : ℕ) → IsNumber work d → issue_of work later d < NEVER → IsDue work order_more d
  due_of_known d d_number known = (
    d_number,
    λ i is. is_placed i (awaits_messages work follows i d is) (omega (arith, awaited-le-issue work later i d is, known)),
  )

  -- of those that awaited it and await nothing more
  its_due : (d : ℕ) → IsOpened awaits m d → IsDue work order_more d
  its_due d is_open = free_is_due work follows order_more (after_start awaits m) awaiting_more d (next.awaiting.waits.only m d is_open.0, is_open.1)

  pub opened_known : (d : ℕ) → IsOpened awaits m d → IsNumber work d × (issue_of work later d < NEVER)
  opened_known d is_open = let due = its_due d is_open in (due.0, known_of_due d due)

  its_awaits : (d : ℕ) → Contains (waiting_for awaits m) d → IsAwaited (work.awaits d) m
  its_awaits d = waiting_awaits work follows order awaits next.awaiting m d next.number apart

  -- the issue of what awaits it was not known, and that of what does not stays
  not_known : (d : ℕ) → IsAwaited (work.awaits d) m → NEVER ≤ issue_of work start d
  not_known d is = omega (arith, awaited-le-issue work start m d is, next.never)

  issue_still : (d : ℕ) → (IsAwaited (work.awaits d) m → ⊥) → issue_of work start d ≡ issue_of work later d
  issue_still d other =
      same_issue work start later d (λ i is. sym (next.moved.others i (awaits_messages work follows i d is).from (λ same. other (subst (IsAwaited (work.awaits d)) same is))))

  abbrev Known : (ℕ → ℕ) → ℕ → Type 0
  Known plan d = IsNumber work d × (now < issue_of work plan d) × (issue_of work plan d < NEVER)

  known_still : (d : ℕ) → Known start d → issue_of work start d ≡ issue_of work later d
  known_still d is = issue_still d (λ after. omega (arith, not_known d after, is.2))

  known_there : (d : ℕ) → Known start d → Known later d
  known_there d is = (is.0, omega (arith, is.1, known_still d is), omega (arith, is.2, known_still d is))

  known_back : (d : ℕ) → Known later d → (Contains (waiting_for awaits m) d → ⊥) → Known start d
  known_back d is other =
      let free = due_is_free work follows order_more (after_start awaits m) awaiting_more d (due_of_known d is.0 is.2) in
      let before = free_is_due work follows order awaits next.awaiting d (free.0, none_before awaits m d other free.1) in
      let same = issue_still d (λ after. apart (before.1 m after)) in
      (is.0, omega (arith, is.1, same), omega (arith, is.2, same))

  opened_soon : 1 ≤ work.cost m → (d : ℕ) → IsOpened awaits m d → Known later d
  opened_soon cost d is_open =
      let known = opened_known d is_open in
      (known.0, omega (arith, awaited-le-issue work later m d (its_awaits d is_open.0), next.moved.here, cost), known.1)

  module _ (issues opened new : List (ℕ × ℕ)) (h : AreIssues work start now issues) (are : AreOpened work later awaits m opened) (pushed : IsPermutation (opened ++ issues) new) where
    abbrev names : List (ℕ × ℕ) → List ℕ
    names rs = map (λ (r : ℕ × ℕ). r.1) rs

    each_known : AreEach (Known later) (names opened ++ names issues)
    each_known = record {
      only = λ d there. elim (Contains-append_cases (names opened) (names issues) d there) [
        | inl opens ↦ opened_soon (small.some_cost m next.number) d (are.each.only d opens)
        | inr before ↦ known_there d (h.each.only d before)
      ];
      each = λ d known. elim (cases_eq (times d (waiting_for awaits m)) 0) [
        | inl none ↦
            let not_there : Contains (waiting_for awaits m) d → ⊥ = λ waits. omega (arith, none, times_some d (waiting_for awaits m) waits) in
            omega (arith, times_append d (names opened) (names issues), times_none d (names opened) (λ opens. not_there (are.each.only d opens).0), h.each.each d (known_back d known not_there))
        | inr some ↦
            let waits = times_listed d (waiting_for awaits m) (omega (arith, some)) in
            let free = due_is_free work follows order_more (after_start awaits m) awaiting_more d (due_of_known d known.0 known.2) in
            let apart_from = times_none d (names issues) (λ before. omega (arith, (h.each.only d before).2, not_known d (its_awaits d waits))) in
            omega (arith, times_append d (names opened) (names issues), apart_from, are.each.each d (waits, free.1))
      ];
    }

    abbrev Ticks : ℕ × ℕ → Type 0
    Ticks r = issue_of work later r.1 ≡ r.0

    ticks_still : All Ticks issues
    ticks_still = All-weaker (Contains issues) Ticks
        (λ (r : ℕ × ℕ) there.
        let is = h.each.only r.1 (contains_map (λ (s : ℕ × ℕ). s.1) issues r there) in
        sym (known_still r.1 is) ∙ All-contains (λ (s : ℕ × ℕ). issue_of work start s.1 ≡ s.0) issues r h.ticks there) issues (All-contains_itself issues)

    pub issues_more : AreIssues work later now new
    issues_more = record {
      each = each_moved (Known later) (names (opened ++ issues)) (subst (AreEach (Known later)) (sym (map-append (λ (r : ℕ × ℕ). r.1) opened issues)) each_known)
          (names new) (IsPermutation-map (λ (r : ℕ × ℕ). r.1) (opened ++ issues) new pushed);
      ticks = All-permutation Ticks (opened ++ issues) new pushed (All-append Ticks opened issues are.ticks ticks_still);
    }

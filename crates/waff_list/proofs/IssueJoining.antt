-- The messages that are issued at a tick join the order of service, the one that is issued first first.
use Rattle.std.proofs.Common.{◌≡◌, ◌≢◌, ℕ, ◌<◌, ◌≤◌, ◌⊎◌, inl, inr, List, [], ◌∷◌, ◌++◌, map, get_or, All, Contains, arith, ap, sym, subst}
use Rattle.std.proofs.lemmas.Bool.{cases_lt}
use Rattle.std.proofs.lemmas.List.{append_assoc}
use Rattle.std.proofs.lemmas.List.Elements.{All-contains, All-contains_itself, All-head, All-tail, All-weaker, Contains-append_cases, Contains-append_left, Contains-append_right, Contains-get_or, Contains-push}
use Rattle.std.proofs.lemmas.List.Quantifiers.{all_pairs_push}
use Rattle.waff_plan.specs.Issues.{IsIssuedBefore}
use Rattle.waff_plan.specs.Work.{Work, IsNumber, issue_of}
use Rattle.waff_list.specs.Issuing.{AreJoining}
use Rattle.waff_list.specs.Issuing.{AreIssues, AreServed}
use Rattle.waff_waits.specs.Times.{AreEach}
use Rattle.waff_plan.specs.declared.due.TheConstants.{NEVER}
use Rattle.waff_waits.proofs.TimesLemmas.{times_none}
use Rattle.waff_waits.proofs.Each.{contains_first, contains_mapped, contains_more, each_apart, one_of, times_append}

module _ (work : Work) (start : ℕ → ℕ) (served : List ℕ) (issues : List (ℕ × ℕ)) where
  abbrev rest : List ℕ
  rest = map (λ (r : ℕ × ℕ). r.1) issues

  abbrev Known : ℕ → Type 0
  Known m = IsNumber work m × (issue_of work start m < NEVER)

  -- from one tick to the next
  pub joining_of_served : (now next : ℕ) → now ≤ next → now < NEVER → AreServed work start now served → AreIssues work start now issues
      → AreJoining work start next served issues
  joining_of_served now next later short are known = record {
    each = record {
      only = λ m there. elim (Contains-append_cases served rest m there) [
        | inl joined ↦ let is = are.each.only m joined in (is.0, omega (arith, is.1, short))
        | inr waits ↦ let is = known.each.only m waits in (is.0, is.2)
      ];
      each = λ m is. elim (cases_lt now (issue_of work start m)) [
        | inl late ↦
            let none = times_none m served (λ joined. let was = are.each.only m joined in omega (arith, was.1, late)) in
            omega (arith, times_append m served rest, none, known.each.each m (is.0, late, is.1))
        | inr early ↦
            let none = times_none m rest (λ waits. let was = known.each.only m waits in omega (arith, was.1, early)) in
            omega (arith, times_append m served rest, none, are.each.each m (is.0, early))
      ];
    };
    ticks = known.ticks;
    by_now = All-weaker (Contains served) (λ m. issue_of work start m ≤ next) (λ m there. let is = are.each.only m there in omega (arith, is.1, later)) served (All-contains_itself served);
    sorted = are.sorted;
    first = λ i m joined waits. let a = are.each.only i joined in let b = known.each.only m waits in inl (omega (arith, a.1, b.1));
  }

  -- what is kept of a message that is still to join
  tick_of : (now : ℕ) → AreJoining work start now served issues → (m : ℕ) → Contains rest m → (r : ℕ × ℕ) × Contains issues r × (r.1 ≡ m) × (issue_of work start m ≡ r.0)
  tick_of now h m waits =
      let one = contains_mapped (λ (r : ℕ × ℕ). r.1) issues m waits in
      let tick = All-contains (λ (r : ℕ × ℕ). issue_of work start r.1 ≡ r.0) issues one.0 h.ticks one.1 in
      (one.0, one.1, one.2, subst (λ x. issue_of work start x ≡ one.0.0) one.2 tick)

  -- where all that are still to join are issued later, those that are issued by now have joined
  module _ (now : ℕ) (short : now < NEVER) (h : AreJoining work start now served issues) (later : All (λ r. now < r.0) issues) where
    late : (m : ℕ) → Contains rest m → now < issue_of work start m
    late m waits =
        let one = tick_of now h m waits in
        let after = All-contains (λ (r : ℕ × ℕ). now < r.0) issues one.0 later one.1 in
        omega (arith, after, one.3)

    early : (m : ℕ) → Contains served m → issue_of work start m ≤ now
    early m joined = All-contains (λ x. issue_of work start x ≤ now) served m h.by_now joined

    pub served_of_joining : AreServed work start now served
    served_of_joining = record {
      each = record {
        only = λ m joined. ((h.each.only m (Contains-append_left served rest m joined)).0, early m joined);
        each = λ m is.
            let none = times_none m rest (λ waits. omega (arith, late m waits, is.1)) in
            omega (arith, times_append m served rest, none, h.each.each m (is.0, omega (arith, is.1, short)));
      };
      sorted = h.sorted;
    }

    pub issues_of_joining : AreIssues work start now issues
    issues_of_joining = record {
      each = record {
        only = λ m waits. let is = h.each.only m (Contains-append_right served rest m waits) in (is.0, late m waits, is.1);
        each = λ m is.
            let none = times_none m served (λ joined. omega (arith, early m joined, is.1)) in
            omega (arith, times_append m served rest, none, h.each.each m (is.0, is.2));
      };
      ticks = h.ticks;
    }

-- the one that is issued first joins
module _ (work : Work) (start : ℕ → ℕ) (served : List ℕ) (issues : List (ℕ × ℕ)) (now issue m : ℕ) (h : AreJoining work start now served ((issue, m) ∷ issues)) where
  abbrev others : List ℕ
  others = map (λ (r : ℕ × ℕ). r.1) issues

  abbrev IsKnown : ℕ → Type 0
  IsKnown x = IsNumber work x × (issue_of work start x < NEVER)

  pub joins_number : IsNumber work m
  joins_number = (h.each.only m (Contains-append_right served (m ∷ others) m (contains_first m others))).0

  pub joins_at : issue_of work start m ≡ issue
  joins_at = All-head (λ (r : ℕ × ℕ). issue_of work start r.1 ≡ r.0) (issue, m) issues h.ticks

  -- it has not joined before
  pub joins_new : Contains served m → ⊥
  joins_new joined = each_apart IsKnown served (m ∷ others) h.each m joined (contains_first m others)

  moved : AreEach IsKnown ((served ++ m ∷ []) ++ others)
  moved = subst (λ xs. AreEach IsKnown xs) (sym (append_assoc served (m ∷ []) others)) h.each

  module _ (due : issue ≤ now) (least : (s : ℕ × ℕ) → Contains issues s → (issue < s.0) ⊎ ((issue ≡ s.0) × (m ≤ s.1))) where
    before_others : (x : ℕ) → Contains others x → IsIssuedBefore work start m x
    before_others x waits =
        let mine = contains_mapped (λ (r : ℕ × ℕ). r.1) issues x waits in
        let tick = All-contains (λ (r : ℕ × ℕ). issue_of work start r.1 ≡ r.0) issues mine.0 (All-tail (λ (r : ℕ × ℕ). issue_of work start r.1 ≡ r.0) (issue, m) issues h.ticks) mine.1 in
        let at = ap (issue_of work start) mine.2 in
        let apart : m ≢ x
        = λ again. each_apart IsKnown (served ++ m ∷ []) others moved m (Contains-push served m) (subst (λ y. Contains others y) (sym again) waits) in
        elim (least mine.0 mine.1) [
          | inl sooner ↦ inl (omega (arith, sooner, joins_at, tick, at))
          | inr same ↦ inr (omega (arith, same.0, joins_at, tick, at), omega (arith, same.1, mine.2, apart))
        ]

    pub joining_more : AreJoining work start now (served ++ m ∷ []) issues
    joining_more = record {
      each = moved;
      ticks = All-tail (λ (r : ℕ × ℕ). issue_of work start r.1 ≡ r.0) (issue, m) issues h.ticks;
      by_now = All-weaker (Contains (served ++ m ∷ [])) (λ x. issue_of work start x ≤ now)
          (λ x there. elim (one_of served m x there) [
            | inl joined ↦ All-contains (λ y. issue_of work start y ≤ now) served x h.by_now joined
            | inr same ↦ omega (arith, ap (issue_of work start) same, joins_at, due)
          ]) (served ++ m ∷ []) (All-contains_itself (served ++ m ∷ []));
      sorted = all_pairs_push (IsIssuedBefore work start) served m h.sorted
          (λ k d inside. h.first (get_or served k d) m (Contains-get_or served k d inside) (contains_first m others));
      first = λ i x there waits. elim (one_of served m i there) [
        | inl joined ↦ h.first i x joined (contains_more m x others waits)
        | inr same ↦ subst (λ y. IsIssuedBefore work start y x) (sym same) (before_others x waits)
      ];
    }

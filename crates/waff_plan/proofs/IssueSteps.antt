-- The unlimited plan in the order of issue, one message after another.
use Rattle.std.proofs.Common.{◌≡◌, ◌≢◌, ℕ, zero, suc, ◌+◌, ◌-◌, ◌<◌, ◌≤◌, ◌==◌, ◌⊎◌, inl, inr, max, Bool, true, cond, List, [], ◌∷◌, ◌++◌, length, map, get_or, set, count_by, sum_by, Contains, Option, Some, None, MatchOption, arith, refl, sym, ◌∙◌, ap, subst}
use Rattle.std.specs.List.{list_any}
use Rattle.std.specs.List.Sorted.{IsPermutation}
use Rattle.std.specs.Prelude.{nat_eq}
use Rattle.std.proofs.lemmas.Bool.{cases_eq, cases_Bool, cond-true, cond-false, eq-eqb, ne_eqb, false_from_ne_true, eqb-true, false≢true}
use Rattle.std.proofs.lemmas.Cmp.{nat_eq_equiv}
use Rattle.std.proofs.lemmas.List.{append_assoc, get_or-set_other, get_or-set_same}
use Rattle.std.proofs.lemmas.List.Elements.{Contains-append_cases, Contains-append_left, Contains-append_right, Contains-push, Contains-push_cases}
use Rattle.std.proofs.lemmas.List.Sorted.{Contains-permutation, sum_by-IsPermutation, IsPermutation-append_right, IsPermutation-map, IsPermutation-sym}
use Rattle.std.proofs.lemmas.List.Sums.{sum_by-cons}
use Rattle.std.proofs.lemmas.Map.Views.{Contains-from_any, list_any-from_Contains}
use Rattle.waff_model.specs.Tree.{Node}
use Rattle.waff_assign.specs.Order.{Relation}
use Rattle.waff_waits.specs.Times.{AreEach}
use Rattle.waff_waits.proofs.Each.{contains_map, each_apart, each_moved, each_there, none_there}
use Rattle.waff_plan.specs.Awaiting.{IsOpen}
use Rattle.waff_plan.specs.Latest.{IsFound, later_of}
use Rattle.waff_plan.specs.Links.{AreLinks, IsLink, held_by, link_of}
use Rattle.waff_plan.specs.Waits.{wait_of}
use Rattle.waff_plan.specs.Work.{Await, Work, IsAwaited, IsNumber, numbers, finish_of, issue_of}
use Rattle.waff_plan.specs.Obeys.{AwaitsEarlier, IsLeast}
use Rattle.waff_plan.specs.Order.{ComesBefore, IsServiceKey, Key, Serves}
use Rattle.waff_plan.specs.Due.{IsDueFirst}
use Rattle.waff_plan.specs.Pending.{Issue}
use Rattle.waff_plan.specs.Table.{IsLatestExcluding}
use Rattle.waff_plan.specs.declared.latest.Latest.{Latest}
use Rattle.waff_plan.specs.declared.waits.Since.TheVariants.{Release}
use Rattle.waff_plan.proofs.AwaitingLemmas.{IsDue}
use Rattle.waff_plan.proofs.Earliest.{least_from_at_once}
use Rattle.waff_plan.proofs.Followings.{is_wait}
use Rattle.waff_plan.proofs.Holding.{same_issue}
use Rattle.waff_plan.proofs.Latests.{found_again, found_same}
use Rattle.waff_plan.proofs.Orders.{serves_forward}
use Rattle.waff_plan.proofs.Places.{keyed_not_itself, keyed_on, sum_by-range_with_len-lt, sum_of_ones}
use Rattle.waff_assign.specs.Held.{Held}

-- message i has a start, and is served before message m
abbrev pub IsTakenBefore : List Node → List Held → Work → (ℕ → ℕ) → List ℕ → Relation
IsTakenBefore tree assigned work key order i m = Contains order i × Serves tree assigned work key i m

-- a message with this issue starts at this tick, after the latest that is before it
abbrev pub StartsAfter : Option Latest → ℕ → ℕ → Type 0
StartsAfter latest issue start = MatchOption latest (start ≡ issue) (λ l. start ≡ max issue l.finish)

-- message m starts as soon as the latest of those that have a start and are served before it allows, and this is its link
pub record IsAtOnce (tree : List Node) (assigned : List Held) (work : Work) (key : Key) (start : ℕ → ℕ) (order : List ℕ) (m : ℕ) (link : Option ℕ) : Type 0 where
  pub latest : Option Latest
  pub found : IsFound (λ i. IsTakenBefore tree assigned work (key start) order i m) (finish_of work start) latest
  pub starts : StartsAfter latest (issue_of work start m) (start m)
  pub link_is : link ≡ wait_of Release work start m latest

-- the messages that have a start, with their links
pub record AreTaken (tree : List Node) (assigned : List Held) (work : Work) (key : Key) (start : ℕ → ℕ) (order : List ℕ) (links : List (Option ℕ)) : Type 0 where
  pub number : (m : ℕ) → Contains order m → IsNumber work m
  pub closed : (i m : ℕ) → IsAwaited (work.awaits m) i → Contains order m → Contains order i
  pub at_once : (m : ℕ) → Contains order m → IsAtOnce tree assigned work key start order m (get_or links (m - 1) None)

-- the numbers of these messages
abbrev pub those : List Issue → List ℕ
those pending = map (λ (x : Issue). x.1) pending

-- the messages whose issue is known and that have no start, with their issues: all that they await has one
pub record ArePending (work : Work) (key : Key) (start : ℕ → ℕ) (order : List ℕ) (pending : List Issue) : Type 0 where
  pub each : AreEach (IsDue work order) (order ++ those pending)
  pub issue : (x : Issue) → Contains pending x → x.0 ≡ key start x.1
  pub later : (x : Issue) (i : ℕ) → Contains pending x → Contains order i → ComesBefore (key start) i x.1

-- where one of those that are pending is taken, each is taken or pending as before
pub each_taken : (P : ℕ → Type 0) (order : List ℕ) (pending rest : List Issue) (x : Issue) → IsPermutation pending (x ∷ rest)
    → AreEach P (order ++ those pending) → AreEach P ((order ++ x.1 ∷ []) ++ those rest)
each_taken P order pending rest x taken each =
    let moved = IsPermutation-map (λ (y : Issue). y.1) pending (x ∷ rest) taken in
    subst (AreEach P) (sym (append_assoc order (x.1 ∷ []) (those rest)))
    (each_moved P (order ++ those pending) each (order ++ x.1 ∷ those rest) (IsPermutation-append_right order (those pending) (x.1 ∷ those rest) moved))

-- whether a message is among these
has : List ℕ → ℕ → Bool
has order m = list_any (nat_eq m) order

has_from : (order : List ℕ) (m : ℕ) → has order m ≡ true → Contains order m
unfolding has
has_from order m h = Contains-from_any (λ x y e. eqb-true x y e) m order h

has_to : (order : List ℕ) (m : ℕ) → Contains order m → has order m ≡ true
unfolding has
has_to order m h = list_any-from_Contains nat_eq_equiv m order h

pub has_or_not : (order : List ℕ) (m : ℕ) → Contains order m ⊎ (Contains order m → ⊥)
has_or_not order m = elim (cases_Bool (has order m)) [
  | inl is_there ↦ inl (has_from order m is_there)
  | inr is_not ↦ inr (λ there. false≢true (sym is_not ∙ has_to order m there))
]

-- the issues of the same messages are the same where what they await starts at the same ticks
module _ (work : Work) (start later : ℕ → ℕ) (m : ℕ) (same : (i : ℕ) → 1 ≤ i → i ≢ m → later i ≡ start i) where
  issue_kept : AwaitsEarlier work → (j : ℕ) → ((i : ℕ) → IsAwaited (work.awaits j) i → i ≢ m) → issue_of work later j ≡ issue_of work start j
  issue_kept follows j other = same_issue work later start j (λ f follow. same f (follows f j follow).from (other f follow))

  key_kept : (key : Key) → IsServiceKey work key → AwaitsEarlier work → (j : ℕ) → ((i : ℕ) → IsAwaited (work.awaits j) i → i ≢ m) → key later j ≡ key start j
  key_kept key service follows j other = service.kept later start j (λ f follow. same f (follows f j follow).from (other f follow))

  pub finish_kept : (i : ℕ) → 1 ≤ i → i ≢ m → finish_of work later i ≡ finish_of work start i
  finish_kept i from other = ap (λ s. s + work.cost i) (same i from other)

first_same : (key other : ℕ → ℕ) (i j : ℕ) → key i ≡ other i → key j ≡ other j → ComesBefore key i j → ComesBefore other i j
first_same key other i j same_i same_j (inl sooner) = inl (omega (arith, same_i, same_j, sooner))
first_same key other i j same_i same_j (inr same) = inr (omega (arith, same_i, same_j, same.0), same.1)

serves_same : (tree : List Node) (assigned : List Held) (work : Work) (key other : ℕ → ℕ) (i j : ℕ) → key i ≡ other i → key j ≡ other j
    → Serves tree assigned work key i j → Serves tree assigned work other i j
serves_same tree assigned work key other i j same_i same_j served = record {
  first = served.first;
  second = served.second;
  precedes = first_same key other i j same_i same_j served.precedes;
  excludes = served.excludes;
}

-- what starts after the latest that is before it starts when it is issued or that one has finished, and no later
issued_from : (latest : Option Latest) (issue start : ℕ) → StartsAfter latest issue start → issue ≤ start
issued_from None issue start at = omega (arith, at)
issued_from (Some l) issue start at = omega (arith, at)

finished_from : (Is : ℕ → Type 0) (finish : ℕ → ℕ) (latest : Option Latest) (issue start : ℕ) → IsFound Is finish latest → StartsAfter latest issue start → (i : ℕ) → Is i
    → finish i ≤ start
finished_from Is finish None issue start none at i is = absurd (none i is)
finished_from Is finish (Some l) issue start found at i is = omega (arith, at, found.finish_is, found.number.latest i is)

greatest_from : (Is : ℕ → Type 0) (finish : ℕ → ℕ) (latest : Option Latest) (issue start : ℕ) → IsFound Is finish latest → StartsAfter latest issue start → (tick : ℕ) → issue ≤ tick
    → ((i : ℕ) → Is i → finish i ≤ tick) → start ≤ tick
greatest_from Is finish None issue start none at tick issued finished = omega (arith, at, issued)
greatest_from Is finish (Some l) issue start found at tick issued finished =
    omega (arith, at, issued, found.finish_is, finished l.number found.number.one)

-- what is awaited holds back as long where it starts at the same ticks
held_same : (finish other : ℕ → ℕ) (latest : Option Latest) (awaits : List Await) → ((i : ℕ) → IsAwaited awaits i → other i ≡ finish i)
    → held_by finish latest awaits ≡ held_by other latest awaits
held_same finish other latest [] same = refl
held_same finish other latest (a ∷ rest) same =
    let more = held_same finish other latest rest (λ i awaited. same i (inr awaited)) in
    let of : Option Latest → ℕ → Option Latest = λ held tick. later_of held (Some (record { finish = tick + a.gap; number = a.message })) in
    ap (λ held. of held (finish a.message)) more ∙ ap (of (held_by other latest rest)) (sym (same a.message (inl refl)))

-- one of the pending messages is taken: what is known of it, and what of the others
module _ (tree : List Node) (assigned : List Held) (work : Work) (key : Key) (service : IsServiceKey work key) (start later : ℕ → ℕ) (order : List ℕ) (pending rest : List Issue) (x : Issue)
    (follows : AwaitsEarlier work) (links : List (Option ℕ)) (taken : AreTaken tree assigned work key start order links) (are : ArePending work key start order pending)
    (taken_first : IsPermutation pending (x ∷ rest)) (same : (i : ℕ) → 1 ≤ i → i ≢ x.1 → later i ≡ start i) where
  abbrev m : ℕ
  m = x.1

  abbrev more : List ℕ
  more = order ++ m ∷ []

  pub x_there : Contains pending x
  x_there = Contains-permutation (x ∷ rest) pending x (IsPermutation-sym pending (x ∷ rest) taken_first) (0, omega arith, refl)

  pub rest_there : (y : Issue) → Contains rest y → Contains pending y
  rest_there y there =
      Contains-permutation (x ∷ rest) pending y (IsPermutation-sym pending (x ∷ rest) taken_first) (suc there.0, omega (arith, there.1), there.2)

  -- what is taken or pending awaits only what is taken
  pub due_of : (y : Issue) → Contains pending y → IsDue work order y.1
  due_of y there = are.each.only y.1 (Contains-append_right order (those pending) y.1 (contains_map (λ (z : Issue). z.1) pending y there))

  pub apart_of : (y : Issue) → Contains pending y → Contains order y.1 → ⊥
  apart_of y there at = each_apart (IsDue work order) order (those pending) are.each y.1 at (contains_map (λ (z : Issue). z.1) pending y there)

  pub order_other : (i : ℕ) → Contains order i → i ≢ m
  order_other i there is = apart_of x x_there (subst (Contains order) is there)

  order_issue : (i : ℕ) → Contains order i → issue_of work later i ≡ issue_of work start i
  order_issue i there = issue_kept work start later m same follows i (λ f follow. order_other f (taken.closed f i follow there))

  pub order_finish : (i : ℕ) → Contains order i → finish_of work later i ≡ finish_of work start i
  order_finish i there = finish_kept work start later m same i (taken.number i there).from (order_other i there)

  order_key : (i : ℕ) → Contains order i → key later i ≡ key start i
  order_key i there = key_kept work start later m same key service follows i (λ f follow. order_other f (taken.closed f i follow there))

  pending_key : (y : Issue) → Contains pending y → key later y.1 ≡ key start y.1
  pending_key y there = key_kept work start later m same key service follows y.1 (λ f follow. order_other f ((due_of y there).1 f follow))

  pub m_issue_kept : issue_of work later m ≡ issue_of work start m
  m_issue_kept = issue_kept work start later m same follows m (λ f follow is. omega (arith, (follows f m follow).earlier, is))

  -- what is taken was issued before what is pending
  order_first : (i : ℕ) (y : Issue) → Contains order i → Contains pending y → ComesBefore (key later) i y.1
  order_first i y at there = first_same (key start) (key later) i y.1 (sym (order_key i at)) (sym (pending_key y there)) (are.later y i there at)

  -- message m alone is taken
  pub rest_other : (y : Issue) → Contains rest y → y.1 ≢ m
  rest_other y there is =
      each_apart (IsDue work order) more (those rest) (each_taken (IsDue work order) order pending rest x taken_first are.each) m (Contains-push order m)
      (subst (Contains (those rest)) is (contains_map (λ (z : Issue). z.1) rest y there))

  -- a message that has a start, or m, is behind the same messages as before
  once_again : (j s : ℕ) (latest : Option Latest) (link : Option ℕ) → key later j ≡ key start j → (ComesBefore (key later) m j → ⊥)
      → IsOpen work order j → later j ≡ s → issue_of work later j ≡ issue_of work start j
      → StartsAfter latest (issue_of work start j) s → link ≡ wait_of Release work start j latest
      → IsFound (λ i. IsTakenBefore tree assigned work (key start) order i j) (finish_of work start) latest → IsAtOnce tree assigned work key later more j link
  once_again j s latest link kept not_before after start_is issue_is starts link_is found = record {
    latest = latest;
    found = found_same (λ i. IsTakenBefore tree assigned work (key start) order i j) (λ i. IsTakenBefore tree assigned work (key later) more i j) (finish_of work later) latest
        (λ i pair. (
          Contains-append_left order (m ∷ []) i pair.0,
          serves_same tree assigned work (key start) (key later) i j (sym (order_key i pair.0)) (sym kept) pair.1,
        ))
        (λ i pair. elim (Contains-push_cases order m i pair.0) [
          | inl old ↦ (old, serves_same tree assigned work (key later) (key start) i j (order_key i old) kept pair.1)
          | inr new ↦ absurd (not_before (subst (λ n. ComesBefore (key later) n j) (sym new) pair.1.precedes))
        ])
        (found_again (λ i. IsTakenBefore tree assigned work (key start) order i j) (finish_of work start) (finish_of work later) latest
        (λ i pair. order_finish i pair.0) found);
    starts = subst (λ t. StartsAfter latest (issue_of work later j) t) (sym start_is) (subst (λ i. StartsAfter latest i s) (sym issue_is) starts);
    link_is = link_is
        ∙ ap (λ held. link_of held (work.floor j))
        (held_same (finish_of work start) (finish_of work later) latest (work.awaits j) (λ i awaited. order_finish i (after i awaited)));
  }

  module _ (s : ℕ) (latest : Option Latest) (starts : later m ≡ s) (latest_is : IsLatestExcluding tree assigned (finish_of work start) order m latest)
      (starts_at : MatchOption latest (s ≡ issue_of work start m) (λ l. s ≡ max (issue_of work start m) l.finish)) where
    m_number : IsNumber work m
    m_number = (due_of x x_there).0

    pub m_key : x.0 ≡ key later m
    m_key = are.issue x x_there ∙ sym (pending_key x x_there)

    -- message m starts as soon as it may
    abbrev link : Option ℕ
    link = wait_of Release work start m latest

    m_at_once : IsAtOnce tree assigned work key later more m link
    m_at_once =
        once_again m s latest link (pending_key x x_there) (keyed_not_itself (key later) m) (due_of x x_there).1 starts m_issue_kept starts_at refl
        (found_same _ (λ i. IsTakenBefore tree assigned work (key start) order i m) (finish_of work start) latest
        (λ i both. (both.0, record { first = taken.number i both.0; second = m_number; precedes = are.later x i x_there both.0; excludes = both.1 }))
        (λ i pair. (pair.0, pair.1.excludes)) latest_is)

    -- those that had a start before started as soon as they might
    old_at_once : (j : ℕ) → Contains order j → IsAtOnce tree assigned work key later more j (get_or (set links (m - 1) link) (j - 1) None)
    old_at_once j at =
        let once = taken.at_once j at in
        let from = (taken.number j at).from in
        let read = get_or-set_other links (m - 1) (j - 1) link None (λ one. order_other j at (omega (arith, one, from, m_number.from))) in
        once_again j (start j) once.latest _ (order_key j at) (λ sooner. keyed_not_itself (key later) m (keyed_on (key later) m j m sooner (order_first j x at x_there)))
        (λ f follow. taken.closed f j follow at) (same j from (order_other j at)) (order_issue j at) once.starts (read ∙ once.link_is) once.found

    pub taken_more : length links ≡ work.count → AreTaken tree assigned work key later more (set links (m - 1) link)
    taken_more count = record {
      number = λ j there. elim (Contains-push_cases order m j there) [
        | inl old ↦ taken.number j old
        | inr new ↦ subst (IsNumber work) new m_number
      ];
      closed = λ f j follow there. Contains-append_left order (m ∷ []) f (elim (Contains-push_cases order m j there) [
        | inl old ↦ taken.closed f j follow old
        | inr new ↦ (due_of x x_there).1 f (subst (λ n. IsAwaited (work.awaits n) f) (sym new) follow)
      ]);
      at_once = λ j there. elim (Contains-push_cases order m j there) [
        | inl old ↦ old_at_once j old
        | inr new ↦
            let read = get_or-set_same links (m - 1) link None (omega (arith, m_number.from, m_number.to, count)) in
            subst (λ n. IsAtOnce tree assigned work key later more n (get_or (set links (m - 1) link) (n - 1) None)) new
            (subst (IsAtOnce tree assigned work key later more m) (sym read) m_at_once)
      ];
    }

    -- those are pending then that were, and that await m and nothing more
    module _ (pending_more : List Issue) (no_later : (y : Issue) → Contains rest y → IsDueFirst x y)
        (new_in : (y : Issue) → Contains pending_more y → Contains rest y ⊎ (IsAwaited (work.awaits y.1) m × (y.0 ≡ key later y.1)))
        (each_more : AreEach (IsDue work more) (more ++ those pending_more)) where
      m_before : (y : Issue) → Contains rest y → ComesBefore (key later) m y.1
      m_before y there = elim (no_later y there) [
        | inl sooner ↦ inl (omega (arith, sooner, m_key, are.issue y (rest_there y there), pending_key y (rest_there y there)))
        | inr equal ↦
            inr (omega (arith, equal.0, m_key, are.issue y (rest_there y there), pending_key y (rest_there y there)), omega (arith, equal.1, rest_other y there))
      ]

      m_before_next : (j : ℕ) → IsAwaited (work.awaits j) m → ComesBefore (key later) m j
      m_before_next j awaits = service.rises later m j awaits (issued_from m_at_once.latest (issue_of work later m) (later m) m_at_once.starts)

      later_more : (y : Issue) (i : ℕ) → Contains pending_more y → Contains more i → ComesBefore (key later) i y.1
      later_more y i there at = elim (new_in y there) [
        | inl old_y ↦ elim (Contains-push_cases order m i at) [
          | inl old ↦ order_first i y old (rest_there y old_y)
          | inr new ↦ subst (λ n. ComesBefore (key later) n y.1) new (m_before y old_y)
        ]
        | inr new_y ↦ elim (Contains-push_cases order m i at) [
          | inl old ↦ keyed_on (key later) i m y.1 (order_first i x old x_there) (m_before_next y.1 new_y.0)
          | inr new ↦ subst (λ n. ComesBefore (key later) n y.1) new (m_before_next y.1 new_y.0)
        ]
      ]

      pub pending_from : ArePending work key later more pending_more
      pending_from = record {
        each = each_more;
        issue = λ y there. elim (new_in y there) [
          | inl old ↦ are.issue y (rest_there y old) ∙ sym (pending_key y (rest_there y old))
          | inr new ↦ new.1
        ];
        later = later_more;
      }

-- each message is pending once
abbrev pub AreOnce : List Issue → Type 0
AreOnce pending = (m : ℕ) → count_by (λ (x : Issue). x.1 == m) pending ≤ 1

count_none : (m : ℕ) (pending : List Issue) → ((y : Issue) → Contains pending y → y.1 ≢ m) → count_by (λ (x : Issue). x.1 == m) pending ≡ 0
count_none m [] none = refl
count_none m (y ∷ ys) none =
    let others = count_none m ys (λ z there. none z (suc there.0, omega (arith, there.1), there.2)) in
    let this = cond-false {A = ℕ} (y.1 == m) 1 0 (ne_eqb y.1 m (none y (0, omega arith, refl))) in
    omega (arith, sum_by-cons (λ (x : Issue). cond (x.1 == m) 1 0) y ys, others, this)

pub once_put : (old new : List Issue) (x : Issue) → IsPermutation (x ∷ old) new → AreOnce old → ((y : Issue) → Contains old y → y.1 ≢ x.1) → AreOnce new
once_put old new x put once other m =
    let counts : Issue → ℕ = λ (z : Issue). cond (z.1 == m) 1 0 in
    let all = sum_by-IsPermutation counts (x ∷ old) new put in
    let both = sum_by-cons counts x old in
    elim (cases_eq x.1 m) [
      | inl here ↦
          let none = count_none m old (λ y there is. other y there (is ∙ sym here)) in
          omega (arith, all, both, none, cond-true {A = ℕ} (x.1 == m) 1 0 (eq-eqb x.1 m here))
      | inr there ↦ omega (arith, all, both, once m, cond-false {A = ℕ} (x.1 == m) 1 0 (ne_eqb x.1 m there))
    ]

-- where no message is pending, all have a start
pub all_taken : (work : Work) (key : Key) (start : ℕ → ℕ) (order : List ℕ) → AwaitsEarlier work → ArePending work key start order [] → (n m : ℕ) → m ≤ n → IsNumber work m
    → Contains order m
all_taken work key start order follows are zero m within number = absurd (omega (arith, within, number.from))
all_taken work key start order follows are (suc n) m within number = elim (has_or_not order m) [
  | inl there ↦ there
  | inr apart ↦
      let due : IsDue work order m = (
        number,
        λ f follow.
            let earlier = follows f m follow in
            all_taken work key start order follows are n f (omega (arith, within, earlier.earlier))
            (record { from = earlier.from; to = omega (arith, earlier.earlier, earlier.to) }),
      ) in
      let there = each_there (IsDue work order) (order ++ []) are.each m due in
      elim (Contains-append_cases order [] m there) [ inl taken ↦ taken | inr none ↦ absurd (none_there m none) ]
]

-- where no message is pending, this is the least plan, and these are its links in an order that tells the same
module _ (tree : List Node) (assigned : List Held) (work : Work) (key : Key) (service : IsServiceKey work key) (start : ℕ → ℕ) (order : List ℕ)
    (follows : AwaitsEarlier work) (links : List (Option ℕ)) (taken : AreTaken tree assigned work key start order links) (are : ArePending work key start order []) where
  all : (m : ℕ) → IsNumber work m → Contains order m
  all m number = all_taken work key start order follows are m m (omega arith) number

  once_all : (m : ℕ) → IsNumber work m → IsAtOnce tree assigned work key start order m (get_or links (m - 1) None)
  once_all m number = taken.at_once m (all m number)

  pub least_from_taken : IsLeast (Serves tree assigned work (key start)) work start
  least_from_taken =
      let issued = λ (m : ℕ) (number : IsNumber work m).
      let once = once_all m number in issued_from once.latest (issue_of work start m) (start m) once.starts in
      least_from_at_once (Serves tree assigned work (key start)) work start
      (serves_forward tree assigned work start (key start) issued follows (service.rises start))
      (λ m number.
      let once = once_all m number in
      let Is = λ (i : ℕ). IsTakenBefore tree assigned work (key start) order i m in
      record {
        issued = issued m number;
        finished = λ i served.
            finished_from Is (finish_of work start) once.latest (issue_of work start m) (start m) once.found once.starts i (all i served.first, served);
        greatest = λ tick late finished.
            greatest_from Is (finish_of work start) once.latest (issue_of work start m) (start m) once.found once.starts tick late (λ i pair. finished i pair.1);
      })

  pub links_from_taken : (before : Relation) → ((i j : ℕ) → Serves tree assigned work (key start) i j → before i j)
      → ((i j : ℕ) → before i j → Serves tree assigned work (key start) i j) → AreLinks before work start work.count links
  links_from_taken before to from m one last =
      let once = once_all m (record { from = one; to = last }) in
      subst (IsLink before work start m) (sym once.link_is)
      (is_wait before work start m Release once.latest
      (found_same (λ i. IsTakenBefore tree assigned work (key start) order i m) (λ i. before i m) (finish_of work start) once.latest (λ i pair. to i m pair.1)
      (λ i pair. let served = from i m pair in (all i served.first, served)) once.found))

-- how many messages have no start
pub untaken : Work → List ℕ → ℕ
untaken work order = sum_by (λ i. cond (has order i) 0 1) (numbers work)

pub untaken_less : (work : Work) (order : List ℕ) (m : ℕ) → IsNumber work m → (Contains order m → ⊥) → untaken work (order ++ m ∷ []) < untaken work order
unfolding untaken
untaken_less work order m number apart =
    sum_by-range_with_len-lt (λ i. cond (has (order ++ m ∷ []) i) 0 1) (λ i. cond (has order i) 0 1) 1 work.count m
    (λ i from to. elim (cases_Bool (has order i)) [
      | inl is_there ↦
          let more = has_to (order ++ m ∷ []) i (Contains-append_left order (m ∷ []) i (has_from order i is_there)) in
          omega (arith, cond-true {A = ℕ} (has (order ++ m ∷ []) i) 0 1 more)
      | inr is_not ↦ elim (cases_Bool (has (order ++ m ∷ []) i)) [
        | inl more ↦ omega (arith, cond-true {A = ℕ} (has (order ++ m ∷ []) i) 0 1 more)
        | inr less ↦ omega (arith, cond-false {A = ℕ} (has (order ++ m ∷ []) i) 0 1 less, cond-false {A = ℕ} (has order i) 0 1 is_not)
      ]
    ])
    number.from (omega (arith, number.to))
    (let there = has_to (order ++ m ∷ []) m (Contains-push order m) in
    let not_there = false_from_ne_true (has order m) (λ is_there. apart (has_from order m is_there)) in
    omega (arith, cond-true {A = ℕ} (has (order ++ m ∷ []) m) 0 1 there, cond-false {A = ℕ} (has order m) 0 1 not_there))

pub untaken_all : (work : Work) → untaken work [] ≤ work.count
unfolding untaken has
untaken_all work = omega (arith, sum_of_ones 1 work.count)

-- The list plan for k workers is one: two list plans that are the same below a tick are the same at it. A message that starts at
-- the tick in one and later in the other would be one more than the k that run in the other.
use Rattle.std.proofs.Common.{◌≡◌, ◌≢◌, ℕ, zero, suc, ◌+◌, ◌<◌, ◌≤◌, ◌⊎◌, ◌↔◌, inl, inr, Bool, true, false, cond, sum_by, count_by, refl, arith, sym, ap, subst, ◌∙◌}
use Rattle.std.specs.List.{range_with_len}
use Rattle.std.proofs.lemmas.Bool.{cases_lt, cases_order}
use Rattle.waff_assign.specs.Order.{Relation}
use Rattle.waff_plan.specs.Work.{Work, IsAwaited, IsNumber, IsAmongFirst, issue_of}
use Rattle.waff_plan.specs.Obeys.{IsForward}
use Rattle.waff_plan.specs.Workers.{runs_at}
use Rattle.waff_plan.proofs.Longest.{sum_more}
use Rattle.waff_plan.proofs.Holding.{awaited-le-issue, same_issue}
use Rattle.waff_list.proofs.Running.{runs_parts, runs_from, runs_before_start}
use Rattle.waff_list.specs.ListRule.{IsReady, IsTakenFirst, IsListPlan, arrival}
use Rattle.waff_plan.specs.Unique.{AreSame}
use Rattle.waff_list.specs.Unique.{EachRuns, IsTotalOrder, ListPlanIsOne}

-- the sum of the first n messages
abbrev sum_to : (ℕ → ℕ) → ℕ → ℕ
sum_to f n = sum_by f (range_with_len 1 n)

sum_to_suc : (f : ℕ → ℕ) (n : ℕ) → sum_to f (suc n) ≡ sum_to f n + f (suc n)
sum_to_suc f n = subst (λ x. sum_to f x ≡ sum_to f n + f x) (omega arith) (sum_more f n)

sum_to_le : (f g : ℕ → ℕ) (n : ℕ) → ((m : ℕ) → 1 ≤ m → m ≤ n → f m ≤ g m) → sum_to f n ≤ sum_to g n
sum_to_le f g zero each = omega arith
sum_to_le f g (suc n) each =
    omega (arith, sum_to_le f g n (λ m from to. each m from (omega arith)), each (suc n) (omega arith) (omega arith), sum_to_suc f n, sum_to_suc g n)

sum_to_lt : (f g : ℕ → ℕ) (n m : ℕ) → ((i : ℕ) → 1 ≤ i → i ≤ n → f i ≤ g i) → 1 ≤ m → m ≤ n → f m < g m → sum_to f n < sum_to g n
sum_to_lt f g zero m each from to less = absurd (omega arith)
sum_to_lt f g (suc n) m each from to less = elim (cases_lt m (suc n)) [
  | inl before ↦ omega (arith, sum_to_lt f g n m (λ i i_from i_to. each i i_from (omega arith)) from (omega arith) less, each (suc n) (omega arith) (omega arith), sum_to_suc f n, sum_to_suc g n)
  | inr here ↦
      let same : m ≡ suc n = omega arith in
      omega (arith, sum_to_le f g n (λ i i_from i_to. each i i_from (omega arith)), rw same at less, sum_to_suc f n, sum_to_suc g n)
]

one_le : (p q : Bool) → (p ≡ true → q ≡ true) → cond p 1 0 ≤ cond q 1 0
one_le true q h = rw (h refl) (omega arith)
one_le false q h = omega arith

-- where one test passes only if another does, no more pass it, and fewer where one passes the other alone
pub counts_le : (p q : ℕ → Bool) (n : ℕ) → ((i : ℕ) → IsAmongFirst n i → p i ≡ true → q i ≡ true) → count_by p (range_with_len 1 n) ≤ count_by q (range_with_len 1 n)
counts_le p q n each = sum_to_le (λ i. cond (p i) 1 0) (λ i. cond (q i) 1 0) n (λ i from to. one_le (p i) (q i) (each i (record { from = from; to = to })))

pub counts_lt : (p q : ℕ → Bool) (n m : ℕ) → ((i : ℕ) → IsAmongFirst n i → p i ≡ true → q i ≡ true) → IsAmongFirst n m → p m ≡ false → q m ≡ true
    → count_by p (range_with_len 1 n) < count_by q (range_with_len 1 n)
counts_lt p q n m each number fails passes =
    sum_to_lt (λ i. cond (p i) 1 0) (λ i. cond (q i) 1 0) n m (λ i from to. one_le (p i) (q i) (each i (record { from = from; to = to })))
    number.from number.to (rw (fails, passes) (omega arith))

-- of any two messages one is taken first
abbrev IsAny : Work → Relation → Type 0
IsAny work first = (i j : ℕ) → IsNumber work i → IsNumber work j → i ≢ j → first i j ⊎ first j i

-- two plans start the same messages at each tick below t
pub record AreSameBelow (work : Work) (start other : ℕ → ℕ) (t : ℕ) : Type 0 where
  pub there : (m : ℕ) → IsNumber work m → start m < t → other m ≡ start m
  pub back : (m : ℕ) → IsNumber work m → other m < t → start m ≡ other m

pub turned : (work : Work) (start other : ℕ → ℕ) (t : ℕ) → AreSameBelow work start other t → AreSameBelow work other start t
turned work start other t same = record { there = same.back; back = same.there }

-- of two messages one is taken first
taken_first : (priority : ℕ → ℕ) (i j : ℕ) → (i ≡ j) ⊎ (IsTakenFirst priority i j ⊎ IsTakenFirst priority j i)
taken_first priority i j = elim (cases_order (priority i) (priority j)) [
  | inl same ↦ elim (cases_order i j) [
    | inl one ↦ inl one
    | inr (inl earlier) ↦ inr (inl (inr (same, earlier)))
    | inr (inr later) ↦ inr (inr (inr (sym same, later)))
  ]
  | inr (inl lower) ↦ inr (inr (inl lower))
  | inr (inr higher) ↦ inr (inl (inl higher))
]

-- no message is taken before itself
pub not_itself : (priority : ℕ → ℕ) (i : ℕ) → IsTakenFirst priority i i → ⊥
not_itself priority i (inl higher) = omega arith
not_itself priority i (inr (same, earlier)) = omega arith

-- and what is taken before one is taken before all that that one is taken before
pub onward : (priority : ℕ → ℕ) (i j k : ℕ) → IsTakenFirst priority i j → IsTakenFirst priority j k → IsTakenFirst priority i k
onward priority i j k (inl higher) (inl more) = inl (omega arith)
onward priority i j k (inl higher) (inr (same, later)) = inl (omega arith)
onward priority i j k (inr (same, later)) (inl higher) = inl (omega arith)
onward priority i j k (inr (same, later)) (inr (alike, last)) = inr (same ∙ alike, omega arith)

pub order_of_priority : (priority : ℕ → ℕ) → IsTotalOrder (IsTakenFirst priority)
order_of_priority priority = record {
  apart = not_itself priority;
  onward = onward priority;
  any = λ i j other. elim (taken_first priority i j) [
    | inl same ↦ absurd (other same)
    | inr (inl first) ↦ inl first
    | inr (inr last) ↦ inr last
  ];
}

pub by_arrival : (i j : ℕ) → IsTakenFirst arrival i j ↔ (i < j)
by_arrival i j = (
  (λ first. elim first [ inl higher ↦ absurd (omega (arith, higher)) | inr both ↦ both.1 ]),
  (λ earlier. inr (refl, earlier)),
)

-- two plans, each with an order and what it takes first, go alike at the tick t: of messages that are issued by t the same are before
-- each other in both, and the same are taken first
pub record AreAlike (work : Work) (before near first second : Relation) (start other : ℕ → ℕ) (t : ℕ) : Type 0 where
  pub before_to : (i m : ℕ) → issue_of work start m ≤ t → before i m → near i m
  pub before_back : (i m : ℕ) → issue_of work other m ≤ t → near i m → before i m
  pub first_to : (i j : ℕ) → IsNumber work i → IsNumber work j → issue_of work start i ≤ t → issue_of work start j ≤ t → first i j → second i j
  pub first_back : (i j : ℕ) → IsNumber work i → IsNumber work j → issue_of work other i ≤ t → issue_of work other j ≤ t → second i j → first i j

pub alike_turned : (work : Work) (before near first second : Relation) (start other : ℕ → ℕ) (t : ℕ) → AreAlike work before near first second start other t
    → AreAlike work near before second first other start t
alike_turned work before near first second start other t h =
    record { before_to = h.before_back; before_back = h.before_to; first_to = h.first_back; first_back = h.first_to }

-- each message that is awaited is one
abbrev pub AwaitsMessages : Work → Type 0
AwaitsMessages work = (i m : ℕ) → IsAwaited (work.awaits m) i → IsNumber work i

-- where plans start the same messages below t, they issue the same by t
pub issue_alike : (work : Work) → AwaitsMessages work → EachRuns work → (start other : ℕ → ℕ) (t : ℕ) → AreSameBelow work start other t → (m : ℕ)
    → issue_of work start m ≤ t → issue_of work start m ≡ issue_of work other m
issue_alike work awaited runs start other t same m issued = same_issue work start other m (λ i is.
    let number = awaited i m is in
    sym (same.there i number (omega (arith, awaited-le-issue work start i m is, issued, runs i number))))

module _ (before near first second : Relation) (work : Work) (k : ℕ) (start other : ℕ → ℕ) (t : ℕ) (awaited : AwaitsMessages work) (runs : EachRuns work)
    (numbers : (i m : ℕ) → before i m → IsNumber work i) (plan : IsListPlan before first work k start)
    (same : AreSameBelow work start other t) (alike : AreAlike work before near first second start other t) where
  -- what one plan starts at t is ready at t in the other, if it has not started there
  ready_in_other : (m : ℕ) → IsNumber work m → start m ≡ t → IsReady near work other t m
  ready_in_other m number here =
      let issued : issue_of work start m ≤ t = omega (arith, plan.within.obeys.issued m number, here) in
      let other_issued : issue_of work other m ≤ t = omega (arith, issued, issue_alike work awaited runs start other t same m issued) in
      record {
        number = number;
        issued = other_issued;
        free = λ i pair.
            let was = alike.before_back i m other_issued pair in
            let i_number = numbers i m was in
            let done = plan.within.obeys.ordered i m was in
            rw (sym (same.there i i_number (omega (arith, done, here, runs i i_number))), here) at done;
      }

module _ (before near first second : Relation) (work : Work) (k : ℕ) (start other : ℕ → ℕ) (t : ℕ) (awaited : AwaitsMessages work) (runs : EachRuns work)
    (numbers : (i m : ℕ) → before i m → IsNumber work i) (near_numbers : (i m : ℕ) → near i m → IsNumber work i) (any : IsAny work first)
    (plan : IsListPlan before first work k start) (other_plan : IsListPlan near second work k other)
    (same : AreSameBelow work start other t) (alike : AreAlike work before near first second start other t) where
  here_is_ready : (m : ℕ) → IsNumber work m → start m ≡ t → IsReady near work other t m
  here_is_ready = ready_in_other before near first second work k start other t awaited runs numbers plan same alike

  there_is_ready : (m : ℕ) → IsNumber work m → other m ≡ t → IsReady before work start t m
  there_is_ready = ready_in_other near before second first work k other start t awaited runs near_numbers other_plan (turned work start other t same)
      (alike_turned work before near first second start other t alike)

  -- where m starts at t in one plan and later in the other, what the other starts at t the one does too
  starts_too : (m i : ℕ) → IsNumber work m → start m ≡ t → t < other m → IsNumber work i → other i ≡ t → start i ≡ t
  starts_too m i number here later i_number i_here =
      elim (cases_order (start i) t) [
        | inl at ↦ at
        | inr (inl sooner) ↦ absurd (omega (arith, sooner, i_here, same.there i i_number sooner))
        | inr (inr late) ↦
            let ready = there_is_ready i i_number i_here in
            elim (any i m i_number number (λ one. omega (arith, i_here, later, ap other one))) [
              | inl sooner ↦ absurd (plan.follows.in_turn t i m ready late number sooner here)
              | inr last ↦
                  let issued : issue_of work start m ≤ t = omega (arith, plan.within.obeys.issued m number, here) in
                  absurd (other_plan.follows.in_turn t m i (here_is_ready m number here) later i_number
                  (alike.first_to m i number i_number issued ready.issued last) i_here)
            ]
      ]

  -- so it would be one too many
  not_later : (m : ℕ) → IsNumber work m → start m ≡ t → t < other m → ⊥
  not_later m number here later =
      let full = other_plan.follows.busy t m (here_is_ready m number here) later in
      let each : (i : ℕ) → IsNumber work i → runs_at work other t i ≡ true → runs_at work start t i ≡ true = λ i i_number i_runs.
      let is = runs_parts work other t i i_runs in
      let at : start i ≡ other i = elim (cases_lt (other i) t) [
        | inl sooner ↦ same.back i i_number sooner
        | inr not_sooner ↦
            let i_here : other i ≡ t = omega (arith, is.0) in
            starts_too m i number here later i_number i_here ∙ sym i_here
      ] in
      runs_from work start t i (omega (arith, at, is.0)) (omega (arith, at, is.1)) in
      let runs_here = runs_from work start t m (omega arith) (omega (arith, here, runs m number)) in
      let more = counts_lt (runs_at work other t) (runs_at work start t) work.count m each number (runs_before_start work other t m later) runs_here in
      omega (arith, more, full, plan.within.within t)

  at_tick : (m : ℕ) → IsNumber work m → start m ≡ t → other m ≡ start m
  at_tick m number here = elim (cases_order (other m) t) [
    | inl at ↦ omega arith
    | inr (inl sooner) ↦ absurd (omega (arith, sooner, here, same.back m number sooner))
    | inr (inr later) ↦ absurd (not_later m number here later)
  ]

module _ (before near first second : Relation) (work : Work) (k : ℕ) (start other : ℕ → ℕ) (awaited : AwaitsMessages work) (runs : EachRuns work)
    (numbers : (i m : ℕ) → before i m → IsNumber work i) (near_numbers : (i m : ℕ) → near i m → IsNumber work i)
    (any : IsAny work first) (any_second : IsAny work second)
    (plan : IsListPlan before first work k start) (other_plan : IsListPlan near second work k other)
    (alike : (t : ℕ) → AreSameBelow work start other t → AreAlike work before near first second start other t) where
  same_below : (t : ℕ) → AreSameBelow work start other t
  same_below zero = record {
    there = λ m number sooner. absurd (omega arith);
    back = λ m number sooner. absurd (omega arith);
  }
  same_below (suc t) =
      let same = same_below t in
      record {
        there = λ m number sooner. elim (cases_lt (start m) t) [
          | inl before_t ↦ same.there m number before_t
          | inr not_before ↦ at_tick before near first second work k start other t awaited runs numbers near_numbers any plan other_plan same (alike t same) m number (omega arith)
        ];
        back = λ m number sooner. elim (cases_lt (other m) t) [
          | inl before_t ↦ same.back m number before_t
          | inr not_before ↦ at_tick near before second first work k other start t awaited runs near_numbers numbers any_second other_plan plan
              (turned work start other t same) (alike_turned work before near first second start other t (alike t same)) m number (omega arith)
        ];
      }

  -- two plans that go alike as long as they start the same messages are the same
  pub plans_are_one : AreSame work start other
  plans_are_one m number = sym ((same_below (suc (start m))).there m number (omega arith))

pub list_plan_is_one : (before first second : Relation) (work : Work) → IsForward before work → EachRuns work → IsTotalOrder first → ListPlanIsOne before first second work
list_plan_is_one before first second work forward runs order k start other alike plan other_plan =
    plans_are_one before before first second work k start other (λ f m follows. forward.first f m (inr follows)) runs
    (λ i m pair. forward.first i m (inl pair)) (λ i m pair. forward.first i m (inl pair)) (λ i j i_number j_number. order.any i j)
    (λ i j i_number j_number apart. elim (order.any i j apart) [
      | inl one ↦ inl ((alike i j i_number j_number).0 one)
      | inr one ↦ inr ((alike j i j_number i_number).0 one)
    ])
    plan other_plan
    (λ t same. record {
      before_to = λ i m issued pair. pair;
      before_back = λ i m issued pair. pair;
      first_to = λ i j i_number j_number i_issued j_issued. (alike i j i_number j_number).0;
      first_back = λ i j i_number j_number i_issued j_issued. (alike i j i_number j_number).1;
    })

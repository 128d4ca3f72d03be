-- List plans in the order of issue: there is one, and it is within the bound.
use Rattle.std.proofs.Common.{◌≡◌, ◌≢◌, ℕ, zero, suc, ◌+◌, ◌<◌, ◌≤◌, ◌⊎◌, ◌↔◌, inl, inr, List, arith, refl, sym, ap, ◌∙◌}
use Rattle.std.proofs.lemmas.Bool.{cases_lt, cases_order}
use Rattle.waff_model.specs.Tree.{Node}
use Rattle.waff_assign.specs.Order.{Relation, IsOrdered}
use Rattle.waff_plan.specs.Issues.{IsIssuedBefore, IsServedBefore}
use Rattle.waff_plan.specs.Obeys.{AwaitsEarlier}
use Rattle.waff_plan.specs.Unique.{AreSame}
use Rattle.waff_plan.specs.Work.{Work, IsNumber, issue_of}
use Rattle.waff_plan.proofs.Chains.{printed_is_chain}
use Rattle.waff_plan.proofs.IssueOrder.{IsServedBefore_forward, one_is_issued_first, issue_is_arrival}
use Rattle.waff_plan.proofs.NoClients.{issue_is_floor}
use Rattle.waff_plan.proofs.Ratios.{bound_is_within_twice}
use Rattle.waff_list.specs.ByIssue.{ByIssueIsByArrival, IsTakenByIssue, IsListPlanByIssue, AreClientTails, ClientTailsAreOne, ListPlanByIssueIsOne, PlanByIssueIsOne, ListPlansByIssueAreBounded}
use Rattle.waff_list.specs.ListRule.{IsListPlan, IsReady, IsTakenFirst, arrival}
use Rattle.waff_list.specs.Unique.{EachRuns}
use Rattle.waff_list.specs.declared.rule.Rule.TheVariants.{Arrival, Longest}
use Rattle.waff_list.proofs.Graham.{list_plans_are_within_bound}
use Rattle.waff_list.proofs.RuleLemmas.{busy_of}
use Rattle.waff_list.proofs.Uniqueness.{AwaitsMessages, issue_alike, plans_are_one, turned}
use Rattle.waff_assign.specs.Held.{Held}

-- what is awaited is a message
pub awaits_messages : (work : Work) → AwaitsEarlier work → AwaitsMessages work
awaits_messages work follows i m is =
    let earlier = follows i m is in
    record { from = earlier.from; to = omega (arith, earlier.earlier, earlier.to) }

-- of two messages one is taken first
pub any_by_issue : (priority : ℕ → ℕ) (work : Work) (start : ℕ → ℕ) (i j : ℕ) → i ≢ j → IsTakenByIssue priority work start i j ⊎ IsTakenByIssue priority work start j i
any_by_issue priority work start i j apart = elim (cases_order (priority i) (priority j)) [
  | inl same ↦ elim (one_is_issued_first work start i j) [
    | inl one ↦ absurd (apart one)
    | inr (inl first) ↦ inl (inr (same, first))
    | inr (inr last) ↦ inr (inr (sym same, last))
  ]
  | inr (inl lower) ↦ inr (inl lower)
  | inr (inr higher) ↦ inl (inl higher)
]

module _ (work : Work) (start other : ℕ → ℕ) (t : ℕ) (alike : (m : ℕ) → issue_of work start m ≤ t → issue_of work start m ≡ issue_of work other m) where
  -- what is issued before a message that is issued by t is issued before it in the other plan
  pub issued_to : (i m : ℕ) → issue_of work start m ≤ t → IsIssuedBefore work start i m → IsIssuedBefore work other i m
  issued_to i m issued (inl sooner) = inl (omega (arith, sooner, alike i (omega (arith, sooner, issued)), alike m issued))
  issued_to i m issued (inr same) = inr (omega (arith, same.0, alike i (omega (arith, same.0, issued)), alike m issued), same.1)

  pub served_to : (tree : List Node) (assigned : List Held) (i m : ℕ) → issue_of work start m ≤ t → IsServedBefore tree assigned work start i m
      → IsServedBefore tree assigned work other i m
  served_to tree assigned i m issued pair =
      record { first = pair.first; second = pair.second; precedes = issued_to i m issued pair.precedes; excludes = pair.excludes }

  pub taken_to : (priority next : ℕ → ℕ) → AreSame work priority next → (i j : ℕ) → IsNumber work i → IsNumber work j → issue_of work start j ≤ t → IsTakenByIssue priority work start i j
      → IsTakenByIssue next work other i j
  taken_to priority next same i j i_number j_number issued (inl higher) = inl (omega (arith, higher, same i i_number, same j j_number))
  taken_to priority next same i j i_number j_number issued (inr (level, first)) =
      inr (sym (same i i_number) ∙ level ∙ same j j_number, issued_to i j issued first)

module _ (tree : List Node) (assigned : List Held) (work : Work) (follows : AwaitsEarlier work) where
  -- by priorities that are the same
  same_plans : EachRuns work → (priority next : ℕ → ℕ) → AreSame work priority next → (k : ℕ) (start other : ℕ → ℕ)
      → IsListPlanByIssue tree assigned priority work k start → IsListPlanByIssue tree assigned next work k other → AreSame work start other
  same_plans runs priority next level k start other plan other_plan =
      let messages = awaits_messages work follows in
      plans_are_one (IsServedBefore tree assigned work start) (IsServedBefore tree assigned work other)
      (IsTakenByIssue priority work start) (IsTakenByIssue next work other) work k start other messages runs
      (λ i m pair. pair.first) (λ i m pair. pair.first)
      (λ i j i_number j_number apart. any_by_issue priority work start i j apart)
      (λ i j i_number j_number apart. any_by_issue next work other i j apart)
      plan other_plan
      (λ t same.
      let there = issue_alike work messages runs start other t same in
      let back = issue_alike work messages runs other start t (turned work start other t same) in
      record {
        before_to = λ i m issued pair. served_to work start other t there tree assigned i m issued pair;
        before_back = λ i m issued pair. served_to work other start t back tree assigned i m issued pair;
        first_to = λ i j i_number j_number i_issued j_issued first. taken_to work start other t there priority next level i j i_number j_number j_issued first;
        first_back = λ i j i_number j_number i_issued j_issued first.
            taken_to work other start t back next priority (λ m number. sym (level m number)) i j i_number j_number j_issued first;
      })

  pub list_plan_by_issue_is_one : EachRuns work → ListPlanByIssueIsOne tree assigned work
  list_plan_by_issue_is_one runs priority = same_plans runs priority priority (λ m number. refl)

  -- the bound
  pub list_plans_by_issue_are_bounded : ListPlansByIssueAreBounded tree assigned work
  list_plans_by_issue_are_bounded priority k start chain some plan printed =
      let before = IsServedBefore tree assigned work start in
      let forward = IsServedBefore_forward work start plan.within.obeys.issued follows tree assigned in
      let bound = list_plans_are_within_bound before work forward k start chain some (busy_of before (IsTakenByIssue priority work start) work k start plan) printed in
      record {
        bound = bound;
        twice = bound_is_within_twice before work k start chain (printed_is_chain before work forward start chain printed) bound;
      }

-- the tails of the last d messages are no greater than others that are such
client_tails_within : (work : Work) → AwaitsEarlier work → (tail other : ℕ → ℕ) → AreClientTails work tail → AreClientTails work other
    → (d m : ℕ) → IsNumber work m → work.count < m + d → tail m ≤ other m
client_tails_within work follows tail other tails others zero m number last = absurd (omega (arith, last, number.to))
client_tails_within work follows tail other tails others (suc d) m number last = elim (tails.one m number) [
  | inl (none, is) ↦ elim (others.one m number) [
    | inl (_, other_is) ↦ omega (arith, is, other_is)
    | inr (later, later_number, awaits, _) ↦ absurd (none later later_number awaits)
  ]
  | inr (later, later_number, awaits, is) ↦
      let earlier = follows m later awaits in
      let within = client_tails_within work follows tail other tails others d later later_number (omega (arith, last, earlier.earlier)) in
      omega (arith, is, within, others.each m later later_number awaits)
]

pub client_tails_are_one : (work : Work) → AwaitsEarlier work → ClientTailsAreOne work
client_tails_are_one work follows tail other tails others m number =
    let within = client_tails_within work follows tail other tails others (work.count + 1) m number (omega arith) in
    let back = client_tails_within work follows other tail others tails (work.count + 1) m number (omega arith) in
    omega (arith, within, back)

-- the plan by a rule is one
pub plan_by_issue_is_one : (tree : List Node) (assigned : List Held) (work : Work) → AwaitsEarlier work → EachRuns work → PlanByIssueIsOne tree assigned work
plan_by_issue_is_one tree assigned work follows runs Arrival k start other p q = list_plan_by_issue_is_one tree assigned work follows runs _ k start other p q
plan_by_issue_is_one tree assigned work follows runs Longest k start other (tail, tails, p) (other_tail, other_tails, q) =
    same_plans tree assigned work follows runs tail other_tail (client_tails_are_one work follows tail other_tail tails other_tails) k start other p q

-- a list plan over the same pairs that takes the same first
pub plan_over_same : (before near first second : Relation) (work : Work) → ((i j : ℕ) → before i j ↔ near i j) → ((i j : ℕ) → second i j → first i j)
    → (k : ℕ) (start : ℕ → ℕ) → IsListPlan before first work k start → IsListPlan near second work k start
plan_over_same before near first second work same firsts k start h =
    let ready = λ (t m : ℕ) (r : IsReady near work start t m).
    let was : IsReady before work start t m = record { number = r.number; issued = r.issued; free = λ i pair. r.free i ((same i m).0 pair) } in was in
    record {
      within = record {
        obeys = record { issued = h.within.obeys.issued; ordered = λ i j pair. h.within.obeys.ordered i j ((same i j).1 pair) };
        within = h.within.within;
      };
      follows = record {
        busy = λ t m r. h.follows.busy t m (ready t m r);
        in_turn = λ t m other r waits number takes. h.follows.in_turn t m other (ready t m r) waits number (firsts m other takes);
      };
    }

pub by_issue_is_by_arrival : (tree : List Node) (assigned : List Held) (work : Work) → ByIssueIsByArrival tree assigned work
by_issue_is_by_arrival tree assigned work same none rises k start = (
  λ plan. plan_over_same served pairs by_issue by_arrival work to_pairs (λ i j. issue_of_arrival i j) k start plan,
  λ plan. plan_over_same pairs served by_arrival by_issue work (λ i j. let both = to_pairs i j in (both.1, both.0)) (λ i j. arrival_of_issue i j) k start plan,
)
  where
    served : Relation
    served = IsServedBefore tree assigned work start

    pairs : Relation
    pairs = IsOrdered tree assigned

    by_issue : Relation
    by_issue = IsTakenByIssue arrival work start

    by_arrival : Relation
    by_arrival = IsTakenFirst arrival

    to_pairs : (i j : ℕ) → served i j ↔ pairs i j
    to_pairs = issue_is_arrival tree assigned work start same none rises

    issue_of_arrival : (i j : ℕ) → by_arrival i j → by_issue i j
    issue_of_arrival i j (inl higher) = inl higher
    issue_of_arrival i j (inr (level, lower)) = inr (
      level,
      elim (cases_lt (issue_of work start i) (issue_of work start j)) [
        | inl sooner ↦ inl sooner
        | inr late ↦ inr (omega (arith, late, issue_is_floor work none start i, issue_is_floor work none start j, rises i j lower), lower)
      ],
    )

    lower_of : (i j : ℕ) → IsIssuedBefore work start i j → i < j
    lower_of i j (inr level) = level.1
    lower_of i j (inl sooner) = elim (cases_order i j) [
      | inl one ↦ absurd (omega (arith, sooner, ap (issue_of work start) one))
      | inr (inl lower) ↦ lower
      | inr (inr higher) ↦ absurd (omega (arith, sooner, issue_is_floor work none start i, issue_is_floor work none start j, rises j i higher))
    ]

    arrival_of_issue : (i j : ℕ) → by_issue i j → by_arrival i j
    arrival_of_issue i j (inl higher) = inl higher
    arrival_of_issue i j (inr (level, first)) = inr (level, lower_of i j first)

-- The list plans by each of the rules, from those by a priority.
use Rattle.std.proofs.Common.{◌≡◌, ℕ, inl, inr, List, sym, ◌∙◌, arith}
use Rattle.waff_model.specs.Tree.{Node}
use Rattle.waff_assign.specs.Order.{IsOrdered, Path, Relation}
use Rattle.waff_plan.specs.Work.{Work, IsNumber}
use Rattle.waff_plan.specs.Obeys.{IsForward}
use Rattle.waff_order.specs.Needs.{IsNeed, AreNeeds}
use Rattle.waff_list.specs.Bound.{IsBusyPlan}
use Rattle.waff_list.specs.ListRule.{IsTakenFirst, IsListPlan, arrival}
use Rattle.waff_list.specs.Rules.{IsPlanBy}
use Rattle.waff_list.specs.Unique.{EachRuns, TakeTheSame, RulePlanIsOne}
use Rattle.waff_list.specs.declared.rule.Rule.{Rule}
use Rattle.waff_list.specs.declared.rule.Rule.TheVariants.{Arrival, Longest}
use Rattle.waff_list.proofs.PathPlans.{plan_over_pairs}
use Rattle.waff_list.proofs.TailLemmas.{ahead_of, tails_are_one, paths_share_tails}
use Rattle.waff_list.proofs.Uniqueness.{order_of_priority, list_plan_is_one}
use Rattle.waff_assign.specs.Held.{Held}

-- a list plan leaves no worker idle
pub busy_of : (before first : Relation) (work : Work) (k : ℕ) (start : ℕ → ℕ) → IsListPlan before first work k start → IsBusyPlan before work k start
busy_of before first work k start h = record { within = h.within; busy = h.follows.busy }

-- the plan by a rule is the list plan by some priority
pub plan_by_priority : (rule : Rule) (before : Relation) (work : Work) (k : ℕ) (start : ℕ → ℕ) → IsPlanBy rule before work k start
    → (priority : ℕ → ℕ) × IsListPlan before (IsTakenFirst priority) work k start
plan_by_priority Arrival before work k start h = (arrival, h)
plan_by_priority Longest before work k start (tail, tails, h) = (tail, h)

-- paths through needs and the ordered pairs
pub rule_over_pairs : (tree : List Node) (assigned : List Held) (needs : List (List ℕ)) (work : Work) (rule : Rule) (k : ℕ) (start : ℕ → ℕ) → AreNeeds tree assigned needs
    → IsPlanBy rule (Path (IsNeed needs)) work k start → IsPlanBy rule (IsOrdered tree assigned) work k start
rule_over_pairs tree assigned needs work Arrival k start are h = plan_over_pairs tree assigned needs work (IsTakenFirst arrival) k start are h
rule_over_pairs tree assigned needs work Longest k start are (tail, tails, h) =
    let shared = paths_share_tails tree assigned needs work tail are in
    (tail, shared.0 tails, plan_over_pairs tree assigned needs work (IsTakenFirst tail) k start are h)

-- a relation takes first what it takes first
pub same_first : (work : Work) (first : Relation) → TakeTheSame work first first
same_first work first i j i_number j_number = ((λ first. first), (λ first. first))

-- tails that are equal take the same first
equal_first : (work : Work) (one other : ℕ → ℕ) → ((m : ℕ) → IsNumber work m → one m ≡ other m) → (i j : ℕ) → IsNumber work i → IsNumber work j
    → IsTakenFirst one i j → IsTakenFirst other i j
equal_first work one other same i j i_number j_number (inl higher) =
    let at_i : one i ≡ other i = same i i_number in
    let at_j : one j ≡ other j = same j j_number in
    inl (omega arith)
equal_first work one other same i j i_number j_number (inr (alike, earlier)) =
    inr (sym (same i i_number) ∙ alike ∙ same j j_number, earlier)

-- the plan by a rule leaves no worker idle
pub busy_by_rule : (rule : Rule) (before : Relation) (work : Work) (k : ℕ) (start : ℕ → ℕ) → IsPlanBy rule before work k start → IsBusyPlan before work k start
busy_by_rule rule before work k start h = let by = plan_by_priority rule before work k start h in busy_of before (IsTakenFirst by.0) work k start by.1

-- the plan by a rule is one
pub rule_plan_is_one : (before : Relation) (work : Work) → IsForward before work → EachRuns work → RulePlanIsOne before work
rule_plan_is_one before work forward runs Arrival k start other p q =
    list_plan_is_one before (IsTakenFirst arrival) (IsTakenFirst arrival) work forward runs (order_of_priority arrival) k start other (same_first work (IsTakenFirst arrival)) p q
rule_plan_is_one before work forward runs Longest k start other (tail, tails, p) (other_tail, other_tails, q) =
    let same = tails_are_one before work (ahead_of before work forward) tail other_tail tails other_tails in
    list_plan_is_one before (IsTakenFirst tail) (IsTakenFirst other_tail) work forward runs (order_of_priority tail) k start other
    (λ i j i_number j_number. (
      equal_first work tail other_tail same i j i_number j_number,
      equal_first work other_tail tail (λ m number. sym (same m number)) i j i_number j_number,
    )) p q

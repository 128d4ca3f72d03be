-- The plan that is made in either order of service is the list plan by the rule.
use Rattle.std.proofs.Common.{◌≡◌, ℕ, ◌<◌, ◌⊎◌, inl, inr, List, length, arith, refl, sym, ◌∙◌}
use Rattle.waff_model.specs.declared.message.Message.{Message}
use Rattle.waff_model.specs.declared.message.Version.{Version}
use Rattle.waff_assign.specs.Order.{Path, Relation}
use Rattle.waff_order.specs.Needs.{IsNeed}
use Rattle.waff_plan.specs.Order.{ComesBefore}
use Rattle.waff_plan.specs.Timetable.{AreTimings, timings_of, work_of_messages}
use Rattle.waff_plan.specs.Work.{Work}
use Rattle.waff_plan.proofs.TimingLemmas.{length-timings_of}
use Rattle.waff_list.specs.ListRule.{IsListPlan, IsTakenFirst, arrival}
use Rattle.waff_list.specs.Orders.{TakesFirst}
use Rattle.waff_list.specs.Planning.{Fits}
use Rattle.waff_list.specs.Services.{ArePriorities, IsPlanIn, IsServiceFor}
use Rattle.waff_list.specs.Telling.{Basis, of_needs, of_tree, order_by}
use Rattle.waff_list.specs.declared.rule.Rule.{Rule}
use Rattle.waff_list.specs.declared.rule.Rule.TheVariants.{Arrival, Longest}
use Rattle.waff_list.specs.declared.service.Service.{Service}
use Rattle.waff_list.specs.declared.service.Service.TheVariants.{ByIssue, ByNumber}
use Rattle.waff_list.proofs.IssuePlans.{plan_over_same}
use Rattle.waff_list.proofs.TailLemmas.{tails_over_paths}

pub fits_of : (service : Service) (version : Version) (messages : List Message) → IsServiceFor service version (length messages) → AreTimings version (timings_of messages)
    → Fits service (work_of_messages messages)
fits_of (ByNumber needs) version messages serves are = (serves.0 ∙ sym (length-timings_of messages), are.alone serves.2, serves.1)
fits_of (ByIssue issues) version messages serves are = serves ∙ sym (length-timings_of messages)

-- by another relation that takes first no more than the one does
taken_by : (before first other : Relation) (work : Work) (k : ℕ) (start : ℕ → ℕ) → ((i j : ℕ) → other i j → first i j) → IsListPlan before first work k start → IsListPlan before other work k start
taken_by before first other work k start less = plan_over_same before before first other work (λ i j. ((λ pair. pair), (λ pair. pair))) less k start

-- without priorities messages are taken by their keys
first_equal : (priority : ℕ → ℕ) (key : ℕ → ℕ) → ((m : ℕ) → priority m ≡ arrival m) → (i j : ℕ) → (arrival j < arrival i) ⊎ ((arrival i ≡ arrival j) × ComesBefore key i j) → TakesFirst priority key i j
first_equal priority key none i j (inl less) = absurd (omega (arith, less))
first_equal priority key none i j (inr (_, before)) = inr (none i ∙ sym (none j), before)

-- of equal keys the lower number
first_number : (priority : ℕ → ℕ) (i j : ℕ) → IsTakenFirst priority i j → TakesFirst priority (λ m. 0) i j
first_number priority i j (inl higher) = inl higher
first_number priority i j (inr (same, before)) = inr (same, inr (refl, before))

pub plan_in : (rule : Rule) (basis : Basis) (work : Work) (k : ℕ) (start priority : ℕ → ℕ) → ArePriorities rule basis work priority
    → IsListPlan ((order_by basis work).before start) (TakesFirst priority ((order_by basis work).key start)) work k start → IsPlanIn rule basis work k start
plan_in Arrival (of_needs needs) work k start priority none plan =
    taken_by (Path (IsNeed needs)) (TakesFirst priority (λ m. 0)) (IsTakenFirst arrival) work k start
    (λ i j first. elim first [
      | inl less ↦ absurd (omega (arith, less))
      | inr (_, before) ↦ first_equal priority (λ m. 0) none i j (inr (refl, inr (refl, before)))
    ]) plan
plan_in Arrival (of_tree tree spans assigned) work k start priority none plan = taken_by _ _ _ work k start (first_equal priority ((order_by (of_tree tree spans assigned) work).key start) none) plan
plan_in Longest (of_needs needs) work k start priority tails plan = (
  priority,
  tails_over_paths (IsNeed needs) work priority tails,
  taken_by (Path (IsNeed needs)) (TakesFirst priority (λ m. 0)) (IsTakenFirst priority) work k start (first_number priority) plan,
)
plan_in Longest (of_tree tree spans assigned) work k start priority tails plan = (priority, tails, plan)

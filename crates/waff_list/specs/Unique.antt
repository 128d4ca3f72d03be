-- One thing each: of two messages the one that is taken first, the list plan for k workers, the
-- workers of its messages, and its order.
use Rattle.std.specs.Prelude.{◌≡◌, ◌≢◌, ℕ, ◌≤◌, ◌⊎◌, ◌↔◌, List}
use Rattle.waff_assign.specs.Order.{Relation}
use Rattle.waff_plan.specs.Work.{Work, IsNumber}
use Rattle.waff_plan.specs.Unique.{AreSame}
use Rattle.waff_list.specs.ListRule.{IsListPlan, HaveSamePaths}
use Rattle.waff_list.specs.Rules.{IsPlanBy}
use Rattle.waff_list.specs.declared.rule.Rule.{Rule}
use Rattle.waff_list.specs.Seats.{IsSeated, IsInOrder}

-- each message runs for one tick at least
abbrev pub EachRuns : Work → Type 0
EachRuns work = (m : ℕ) → IsNumber work m → 1 ≤ work.cost m

-- a relation orders all messages: none is taken before itself, whatever is taken before one is taken
-- before what that one is taken before, and of any two one is
pub record IsTotalOrder (first : Relation) : Type 0 where
  pub apart : (i : ℕ) → first i i → ⊥
  pub onward : (i j k : ℕ) → first i j → first j k → first i k
  pub any : (i j : ℕ) → i ≢ j → first i j ⊎ first j i

-- two relations of which each takes the same one of two messages first
abbrev pub TakeTheSame : Work → Relation → Relation → Type 0
TakeTheSame work first other =
    (i j : ℕ) → IsNumber work i → IsNumber work j → first i j ↔ other i j

-- two list plans for k, by relations that take the same messages first, start each message at the
-- same tick
abbrev pub ListPlanIsOne : Relation → Relation → Relation → Work → Type 0
ListPlanIsOne before first other_first work =
    (k : ℕ) (start other : ℕ → ℕ) → TakeTheSame work first other_first
    → IsListPlan before first work k start → IsListPlan before other_first work k other
    → AreSame work start other

-- two plans for k by the same rule start each message at the same tick
abbrev pub RulePlanIsOne : Relation → Work → Type 0
RulePlanIsOne before work =
    (rule : Rule) (k : ℕ) (start other : ℕ → ℕ) → IsPlanBy rule before work k start
    → IsPlanBy rule before work k other → AreSame work start other

-- two sets of pairs with the same paths have the same list plans
abbrev pub ListPlansAreShared : Relation → Relation → Relation → Work → Type 0
ListPlansAreShared near before first work =
    HaveSamePaths near before → (k : ℕ) (start : ℕ → ℕ)
    → IsListPlan near first work k start ↔ IsListPlan before first work k start

-- each message has the least worker that is free
abbrev pub AreSeated : Work → (ℕ → ℕ) → (ℕ → ℕ) → Type 0
AreSeated work start worker = (m : ℕ) → IsNumber work m → IsSeated work start worker m

-- where two plans start each message at the same tick, each message has the same worker
abbrev pub SeatsAreOne : Work → Type 0
SeatsAreOne work =
    (start other worker other_worker : ℕ → ℕ) → AreSame work start other
    → AreSeated work start worker → AreSeated work other other_worker
    → AreSame work worker other_worker

-- where two plans start each message at the same tick, their orders are equal
abbrev pub OrderIsOne : Work → Type 0
OrderIsOne work =
    (start other : ℕ → ℕ) (order other_order : List ℕ) → AreSame work start other
    → IsInOrder work start order → IsInOrder work other other_order → order ≡ other_order

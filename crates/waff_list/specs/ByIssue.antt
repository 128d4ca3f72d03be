-- The list plan in the order in which messages are issued: what is issued first is served first, and of
-- two ready messages of the same priority the one that is issued first is taken first.
use Rattle.std.specs.Prelude.{◌≡◌, ℕ, ◌+◌, ◌<◌, ◌≤◌, ◌⊎◌, ◌↔◌, List, length}
use Rattle.waff_model.specs.Tree.{Node}
use Rattle.waff_assign.specs.Order.{Relation, IsOrdered}
use Rattle.waff_plan.specs.Bound.{IsWithinBound, IsWithinTwice}
use Rattle.waff_plan.specs.Chain.{IsPrinted}
use Rattle.waff_plan.specs.Issues.{IsIssuedBefore, IsServedBefore}
use Rattle.waff_plan.specs.Obeys.{AwaitsNone}
use Rattle.waff_plan.specs.Unique.{AreSame}
use Rattle.waff_plan.specs.Work.{Work, IsAwaited, IsNumber, gap_of}
use Rattle.waff_list.specs.ListRule.{IsListPlan, IsTakenFirst, arrival}
use Rattle.waff_list.specs.declared.rule.Rule.{Rule}
use Rattle.waff_list.specs.declared.rule.Rule.TheVariants.{Arrival, Longest}
use Rattle.waff_assign.specs.Held.{Held}

-- of two ready messages i is taken first: its priority is higher, or they have the same and i is
-- issued before j
abbrev pub IsTakenByIssue : (ℕ → ℕ) → Work → (ℕ → ℕ) → Relation
IsTakenByIssue priority work start i j =
    (priority j < priority i) ⊎ ((priority i ≡ priority j) × IsIssuedBefore work start i j)

-- a list plan for k in the order in which it issues the messages itself
abbrev pub IsListPlanByIssue : List Node → List Held → (ℕ → ℕ) → Work → ℕ → (ℕ → ℕ) → Type 0
IsListPlanByIssue tree assigned priority work k start =
    IsListPlan (IsServedBefore tree assigned work start) (IsTakenByIssue priority work start)
    work k start

-- no message awaits m
abbrev pub IsAwaitedByNone : Work → ℕ → Type 0
IsAwaitedByNone work m =
    (later : ℕ) → IsNumber work later → IsAwaited (work.awaits later) m → ⊥

-- the tails of messages that await others, as those of clients: the cost of a message, and of those that
-- await it the greatest gap and tail, its cost alone where none does
pub record AreClientTails (work : Work) (tail : ℕ → ℕ) : Type 0 where
  pub each : (m later : ℕ) → IsNumber work later → IsAwaited (work.awaits later) m
      → work.cost m + (gap_of work m later + tail later) ≤ tail m
  pub one : (m : ℕ) → IsNumber work m → (IsAwaitedByNone work m × (tail m ≡ work.cost m))
      ⊎ ((later : ℕ) × IsNumber work later × IsAwaited (work.awaits later) m
      × (tail m ≡ work.cost m + (gap_of work m later + tail later)))

-- a list plan for k in the order of issue by this rule: by arrival, or by the tails of messages that
-- await others
abbrev pub IsPlanByIssue : Rule → List Node → List Held → Work → ℕ → (ℕ → ℕ) → Type 0
IsPlanByIssue Arrival tree assigned work k start =
    IsListPlanByIssue tree assigned arrival work k start
IsPlanByIssue Longest tree assigned work k start =
    (tail : ℕ → ℕ) × AreClientTails work tail × IsListPlanByIssue tree assigned tail work k start

-- such messages have one tail each
abbrev pub ClientTailsAreOne : Work → Type 0
ClientTailsAreOne work =
    (tail other : ℕ → ℕ) → AreClientTails work tail → AreClientTails work other
    → AreSame work tail other

-- two list plans for k in the order of issue by the same priority start each message at the same tick
abbrev pub ListPlanByIssueIsOne : List Node → List Held → Work → Type 0
ListPlanByIssueIsOne tree assigned work =
    (priority : ℕ → ℕ) (k : ℕ) (start other : ℕ → ℕ)
    → IsListPlanByIssue tree assigned priority work k start
    → IsListPlanByIssue tree assigned priority work k other → AreSame work start other

-- so do two by the same rule
abbrev pub PlanByIssueIsOne : List Node → List Held → Work → Type 0
PlanByIssueIsOne tree assigned work =
    (rule : Rule) (k : ℕ) (start other : ℕ → ℕ) → IsPlanByIssue rule tree assigned work k start
    → IsPlanByIssue rule tree assigned work k other → AreSame work start other

-- a list plan in the order of issue is within the bound of its printed chain, and at most twice as
-- long as any plan for k that serves as it does
pub record IsBoundedByIssue (tree : List Node) (assigned : List Held) (work : Work) (k : ℕ)
    (start : ℕ → ℕ) (chain : List ℕ) : Type 0 where
  pub bound : IsWithinBound work k start chain
  pub twice : IsWithinTwice (IsServedBefore tree assigned work start) work k start

abbrev pub ListPlansByIssueAreBounded : List Node → List Held → Work → Type 0
ListPlansByIssueAreBounded tree assigned work =
    (priority : ℕ → ℕ) (k : ℕ) (start : ℕ → ℕ) (chain : List ℕ) → 1 ≤ k
    → IsListPlanByIssue tree assigned priority work k start
    → IsPrinted (IsServedBefore tree assigned work start) work start chain
    → IsBoundedByIssue tree assigned work k start chain

-- where no message awaits another and releases do not fall, the list plan by arrival in the order of
-- issue is that in the order of the trace
abbrev pub ByIssueIsByArrival : List Node → List Held → Work → Type 0
ByIssueIsByArrival tree assigned work =
    length assigned ≡ work.count → AwaitsNone work
    → ((i j : ℕ) → i < j → work.floor i ≤ work.floor j)
    → (k : ℕ) (start : ℕ → ℕ) → IsListPlanByIssue tree assigned arrival work k start
    ↔ IsListPlan (IsOrdered tree assigned) (IsTakenFirst arrival) work k start

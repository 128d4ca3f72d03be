-- The list plan by each of the rules.
use Rattle.std.specs.Prelude.{ℕ}
use Rattle.waff_assign.specs.Order.{Relation}
use Rattle.waff_plan.specs.Work.{Work}
use Rattle.waff_list.specs.ListRule.{IsListPlan, IsTakenFirst, arrival}
use Rattle.waff_list.specs.Tails.{AreTails}
use Rattle.waff_list.specs.declared.rule.Rule.{Rule}
use Rattle.waff_list.specs.declared.rule.Rule.TheVariants.{Arrival, Longest}

-- a list plan for k by this rule: by arrival, or by the tails of the messages
abbrev pub IsPlanBy : Rule → Relation → Work → ℕ → (ℕ → ℕ) → Type 0
IsPlanBy Arrival before work k start = IsListPlan before (IsTakenFirst arrival) work k start
IsPlanBy Longest before work k start =
    (tail : ℕ → ℕ) × AreTails before work tail × IsListPlan before (IsTakenFirst tail) work k start

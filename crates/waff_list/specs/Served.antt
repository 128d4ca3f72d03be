-- The list plan of a trace, by its version: before the third in the order of the trace, from the third on in the
-- order in which it issues the messages itself.
use Rattle.std.specs.Prelude.{ℕ, List}
use Rattle.waff_model.specs.Tree.{Node}
use Rattle.waff_model.specs.declared.message.Version.{Version}
use Rattle.waff_model.specs.declared.message.Version.TheVariants.{V1, V2, V3, V4}
use Rattle.waff_assign.specs.Order.{IsOrdered}
use Rattle.waff_plan.specs.Work.{Work}
use Rattle.waff_list.specs.ByIssue.{IsPlanByIssue}
use Rattle.waff_list.specs.Rules.{IsPlanBy}
use Rattle.waff_list.specs.declared.rule.Rule.{Rule}
use Rattle.waff_assign.specs.Held.{Held}

-- a list plan for k by this rule
abbrev pub IsPlanServed : Version → Rule → List Node → List Held → Work → ℕ → (ℕ → ℕ) → Type 0
IsPlanServed V1 rule tree assigned work k start = IsPlanBy rule (IsOrdered tree assigned) work k start
IsPlanServed V2 rule tree assigned work k start = IsPlanBy rule (IsOrdered tree assigned) work k start
IsPlanServed V3 rule tree assigned work k start = IsPlanByIssue rule tree assigned work k start
IsPlanServed V4 rule tree assigned work k start = IsPlanByIssue rule tree assigned work k start

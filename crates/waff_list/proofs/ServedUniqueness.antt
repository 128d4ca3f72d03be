-- The plan by a rule is one, by the version of the trace.
use Rattle.std.proofs.Common.{◌≡◌, ℕ, List, length}
use Rattle.waff_model.specs.Tree.{Node}
use Rattle.waff_model.specs.declared.message.Version.{Version}
use Rattle.waff_model.specs.declared.message.Version.TheVariants.{V1, V2, V3, V4}
use Rattle.waff_assign.specs.Held.{Held}
use Rattle.waff_assign.specs.Order.{IsOrdered}
use Rattle.waff_plan.specs.Obeys.{AwaitsEarlier}
use Rattle.waff_plan.specs.Unique.{AreSame}
use Rattle.waff_plan.specs.Work.{Work}
use Rattle.waff_plan.proofs.Forward.{IsOrdered_forward}
use Rattle.waff_list.specs.Served.{IsPlanServed}
use Rattle.waff_list.specs.Unique.{EachRuns}
use Rattle.waff_list.specs.declared.rule.Rule.{Rule}
use Rattle.waff_list.proofs.IssuePlans.{plan_by_issue_is_one}
use Rattle.waff_list.proofs.RuleLemmas.{rule_plan_is_one}

pub plan_served_is_one : (version : Version) (rule : Rule) (tree : List Node) (assigned : List Held) (work : Work) → length assigned ≡ work.count → AwaitsEarlier work
    → EachRuns work → (k : ℕ) (start other : ℕ → ℕ) → IsPlanServed version rule tree assigned work k start
    → IsPlanServed version rule tree assigned work k other → AreSame work start other
plan_served_is_one V1 rule tree assigned work count follows runs k start other one two =
    rule_plan_is_one (IsOrdered tree assigned) work (IsOrdered_forward tree assigned work count follows) runs rule k start other one two
plan_served_is_one V2 rule tree assigned work count follows runs k start other one two =
    rule_plan_is_one (IsOrdered tree assigned) work (IsOrdered_forward tree assigned work count follows) runs rule k start other one two
plan_served_is_one V3 rule tree assigned work count follows runs k start other one two =
    plan_by_issue_is_one tree assigned work follows runs rule k start other one two
plan_served_is_one V4 rule tree assigned work count follows runs k start other one two =
    plan_by_issue_is_one tree assigned work follows runs rule k start other one two

-- The list plan of a trace without clients.
use Rattle.std.proofs.Common.{◌≡◌, ℕ, List, false, sym}
use Rattle.std.proofs.lemmas.Bool.{false≢true}
use Rattle.waff_model.specs.Tree.{Node}
use Rattle.waff_model.specs.Versions.{has_clients}
use Rattle.waff_model.specs.declared.message.Version.{Version}
use Rattle.waff_model.specs.declared.message.Version.TheVariants.{V1, V2, V3, V4}
use Rattle.waff_assign.specs.Held.{Held}
use Rattle.waff_assign.specs.Order.{IsOrdered}
use Rattle.waff_plan.specs.Work.{Work}
use Rattle.waff_list.specs.Rules.{IsPlanBy}
use Rattle.waff_list.specs.Served.{IsPlanServed}
use Rattle.waff_list.specs.declared.rule.Rule.{Rule}

pub served_in_order : (version : Version) → has_clients version ≡ false → (rule : Rule) (tree : List Node) (assigned : List Held) (work : Work) (k : ℕ)
    (start : ℕ → ℕ) → IsPlanBy rule (IsOrdered tree assigned) work k start → IsPlanServed version rule tree assigned work k start
served_in_order V1 none rule tree assigned work k start plan = plan
served_in_order V2 none rule tree assigned work k start plan = plan
served_in_order V3 none rule tree assigned work k start plan = absurd (false≢true (sym none))
served_in_order V4 none rule tree assigned work k start plan = absurd (false≢true (sym none))

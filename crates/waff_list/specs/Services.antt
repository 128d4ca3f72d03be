-- Plans by a rule in either order of service.
use Rattle.std.specs.Prelude.{◌≡◌, ℕ, false, length}
use Rattle.waff_model.specs.Versions.{has_clients}
use Rattle.waff_model.specs.declared.message.Version.{Version}
use Rattle.waff_assign.specs.Order.{Path}
use Rattle.waff_order.specs.Needs.{AreLists, IsNeed}
use Rattle.waff_plan.specs.Work.{Work}
use Rattle.waff_list.specs.ByIssue.{AreClientTails, IsPlanByIssue}
use Rattle.waff_list.specs.ListRule.{arrival}
use Rattle.waff_list.specs.Rules.{IsPlanBy}
use Rattle.waff_list.specs.Tails.{AreTails}
use Rattle.waff_list.specs.Telling.{Basis, of_needs, of_tree}
use Rattle.waff_list.specs.declared.rule.Rule.{Rule}
use Rattle.waff_list.specs.declared.rule.Rule.TheVariants.{Arrival, Longest}
use Rattle.waff_list.specs.declared.service.Service.{Service}
use Rattle.waff_list.specs.declared.service.Service.TheVariants.{ByIssue, ByNumber}

-- the service is one of a trace of this version with so many messages
abbrev pub IsServiceFor : Service → Version → ℕ → Type 0
IsServiceFor (ByNumber needs) version count =
    (length needs.now ≡ count) × AreLists needs.now × (has_clients version ≡ false)
IsServiceFor (ByIssue issues) version count = length issues.case.assigned.now ≡ count

-- the tails of messages: over their needs, or over those that await them
abbrev pub AreTailsBy : Basis → Work → (ℕ → ℕ) → Type 0
AreTailsBy (of_needs needs) work tail = AreTails (IsNeed needs) work tail
AreTailsBy (of_tree tree spans assigned) work tail = AreClientTails work tail

-- the priorities of messages by a rule: all the same, or their tails
abbrev pub ArePriorities : Rule → Basis → Work → (ℕ → ℕ) → Type 0
ArePriorities Arrival basis work priority = (m : ℕ) → priority m ≡ arrival m
ArePriorities Longest basis work priority = AreTailsBy basis work priority

-- a list plan for k by a rule
abbrev pub IsPlanIn : Rule → Basis → Work → ℕ → (ℕ → ℕ) → Type 0
IsPlanIn rule (of_needs needs) work k start = IsPlanBy rule (Path (IsNeed needs)) work k start
IsPlanIn rule (of_tree tree spans assigned) work k start =
    IsPlanByIssue rule tree assigned work k start

-- Plans of clients' messages obey the order in which they issue them.
use Rattle.std.proofs.Common.{◌≡◌, ℕ, List, length, sym, ◌∙◌, ap}
use Rattle.waff_model.specs.Tree.{Node}
use Rattle.waff_model.specs.declared.message.Message.{Message}
use Rattle.waff_model.specs.declared.message.Version.{Version}
use Rattle.waff_model.specs.declared.message.Version.TheVariants.{V1, V2, V3, V4}
use Rattle.waff_assign.specs.Order.{IsOrdered}
use Rattle.waff_plan.specs.Obeys.{Obeys}
use Rattle.waff_plan.specs.Serving.{served_before}
use Rattle.waff_plan.specs.Timetable.{timings_of}
use Rattle.waff_plan.specs.Work.{Work}
use Rattle.waff_plan.specs.declared.timing.Timing.{Timing}
use Rattle.waff_list.specs.Served.{IsPlanServed}
use Rattle.waff_list.specs.declared.rule.Rule.{Rule}
use Rattle.waff_list.specs.declared.rule.Rule.TheVariants.{Arrival, Longest}
use Rattle.waff_list.proofs.RuleLemmas.{busy_by_rule}
use Rattle.waff_list.proofs.TraceWork.{count_is}
use Rattle.waff_assign.specs.Held.{Held}

-- a plan of the messages has as many of them as have affinities
pub as_many : (messages : List Message) (timings : List Timing) (assigned : List Held) → timings ≡ timings_of messages
    → length assigned ≡ length messages → length timings ≡ length assigned
as_many messages timings assigned are same = ap length are ∙ count_is messages ∙ sym same

-- a list plan obeys
pub plan_obeys : (version : Version) (rule : Rule) (tree : List Node) (assigned : List Held) (work : Work) (k : ℕ) (start : ℕ → ℕ)
    → IsPlanServed version rule tree assigned work k start → Obeys (served_before version tree assigned work start) work start
plan_obeys V1 rule tree assigned work k start plan = (busy_by_rule rule (IsOrdered tree assigned) work k start plan).within.obeys
plan_obeys V2 rule tree assigned work k start plan = (busy_by_rule rule (IsOrdered tree assigned) work k start plan).within.obeys
plan_obeys V3 Arrival tree assigned work k start plan = plan.within.obeys
plan_obeys V3 Longest tree assigned work k start (tail, tails, plan) = plan.within.obeys
plan_obeys V4 Arrival tree assigned work k start plan = plan.within.obeys
plan_obeys V4 Longest tree assigned work k start (tail, tails, plan) = plan.within.obeys

-- What printed chains show of their plans, from the laws of plans.
use Rattle.std.proofs.Common.{◌≡◌, ℕ, ◌-◌, ◌<◌, ◌≤◌, List, length, sym, ◌∙◌, ap, arith}
use Rattle.waff_model.specs.Tree.{Node}
use Rattle.waff_model.specs.declared.message.Message.{Message}
use Rattle.waff_model.specs.declared.message.Version.{Version}
use Rattle.waff_model.specs.declared.message.Version.TheVariants.{V1, V2, V3, V4}
use Rattle.waff_assign.specs.Instance.{Instance}
use Rattle.waff_assign.specs.Order.{IsOrdered, Relation}
use Rattle.waff_plan.specs.Work.{IsAmongFirst, Work}
use Rattle.waff_plan.specs.Apart.{AreApart}
use Rattle.waff_plan.specs.Obeys.{IsForward, IsLeast, Obeys}
use Rattle.waff_plan.specs.Chain.{IsPrinted}
use Rattle.waff_plan.specs.Instances.{served_first, started_first, work_of_instance}
use Rattle.waff_plan.specs.Issues.{IsServedBefore}
use Rattle.waff_plan.specs.Serving.{served_before}
use Rattle.waff_plan.specs.Timetable.{AreTimings, timings_of}
use Rattle.waff_plan.specs.Timing.{no_timing}
use Rattle.waff_plan.specs.declared.timing.Timing.{Timing}
use Rattle.waff_plan.proofs.ApartLaws.{apart_where_finished}
use Rattle.waff_plan.proofs.Chains.{chains_are_within_length, least_is_shortest, printed_is_as_long, printed_is_chain}
use Rattle.waff_plan.proofs.Ratios.{bound_is_within_ratio, bound_is_within_twice}
use Rattle.waff_plan.proofs.StartOrder.{served_apart}
use Rattle.waff_plan.proofs.ServingLemmas.{served_to_started, started_forward, started_to_served}
use Rattle.waff_list.specs.Bound.{IsBusyPlan}
use Rattle.waff_list.specs.ByIssue.{IsTakenByIssue}
use Rattle.waff_list.specs.ListRule.{arrival}
use Rattle.waff_list.specs.Served.{IsPlanServed}
use Rattle.waff_list.specs.declared.rule.Rule.{Rule}
use Rattle.waff_list.specs.declared.rule.Rule.TheVariants.{Arrival, Longest}
use Rattle.waff_list.proofs.Graham.{list_plans_are_within_bound}
use Rattle.waff_list.proofs.RuleLemmas.{busy_by_rule, busy_of}
use Rattle.waff_list.proofs.TraceWork.{count_is}
use Rattle.waff_check.proofs.ServesLaws.{serves_where_obeys}
use Rattle.waff_figures.specs.Sweep.{IsPlanOf}
use Rattle.waff_tool.specs.Certificates.{AlikeObey, IsBounded, IsCertified}
use Rattle.waff_assign.specs.Held.{Held}

-- a plan of the messages has as many of them as have affinities
pub as_many : (messages : List Message) (timings : List Timing) (assigned : List Held) → timings ≡ timings_of messages
    → length assigned ≡ length messages → length timings ≡ length assigned
as_many messages timings assigned are same = ap length are ∙ count_is messages ∙ sym same

-- no worker idles by a relation that tells the same
busy_again : (before again : Relation) (work : Work) (k : ℕ) (start : ℕ → ℕ) → ((i j : ℕ) → before i j → again i j) → ((i j : ℕ) → again i j → before i j)
    → IsBusyPlan before work k start → IsBusyPlan again work k start
busy_again before again work k start to from plan = record {
  within = record {
    obeys = record { issued = plan.within.obeys.issued; ordered = λ i j pair. plan.within.obeys.ordered i j (from i j pair) };
    within = plan.within.within;
  };
  busy = λ t m ready. plan.busy t m (record { number = ready.number; issued = ready.issued; free = λ i pair. ready.free i (to i m pair) });
}

-- a plan by a rule leaves no worker idle
pub busy_served : (version : Version) (rule : Rule) (tree : List Node) (assigned : List Held) (work : Work) (k : ℕ) (start : ℕ → ℕ)
    → IsPlanServed version rule tree assigned work k start → IsBusyPlan (served_before version tree assigned work start) work k start
busy_served V1 rule tree assigned work k start plan = busy_by_rule rule (IsOrdered tree assigned) work k start plan
busy_served V2 rule tree assigned work k start plan = busy_by_rule rule (IsOrdered tree assigned) work k start plan
busy_served V3 Arrival tree assigned work k start plan =
    busy_of (IsServedBefore tree assigned work start) (IsTakenByIssue arrival work start) work k start plan
busy_served V3 Longest tree assigned work k start (tail, tails, plan) =
    busy_of (IsServedBefore tree assigned work start) (IsTakenByIssue tail work start) work k start plan
busy_served V4 Arrival tree assigned work k start plan =
    busy_of (IsServedBefore tree assigned work start) (IsTakenByIssue arrival work start) work k start plan
busy_served V4 Longest tree assigned work k start (tail, tails, plan) =
    busy_of (IsServedBefore tree assigned work start) (IsTakenByIssue tail work start) work k start plan

module _ (instance : Instance) (are : AreTimings instance.trace.version (timings_of instance.trace.messages))
    (same : length instance.assigned ≡ length instance.trace.messages) (start : ℕ → ℕ) (chain : List ℕ)
    (printed : IsPrinted (started_first instance start) (work_of_instance instance) start chain) where
  abbrev before : Relation
  before = started_first instance start

  abbrev work : Work
  work = work_of_instance instance

  abbrev timings : List Timing
  timings = timings_of instance.trace.messages

  count : length timings ≡ length instance.assigned
  count = count_is instance.trace.messages ∙ sym same

  run : (m : ℕ) → IsAmongFirst (length instance.assigned) m → 1 ≤ work.cost m
  run m number =
      let within : m - 1 < length timings = omega (arith, number.from, number.to, count) in
      (are.small (m - 1) no_timing within).some_cost

  apart_by_issue : Obeys (IsServedBefore instance.tree instance.assigned work start) work start → AreApart (IsOrdered instance.tree instance.assigned) work start
  apart_by_issue obeys =
      let as_many : length instance.assigned ≡ work.count = same ∙ sym (count_is instance.trace.messages) in
      served_apart instance.tree instance.assigned work as_many
      (λ m number. run m (record { from = number.from; to = omega (arith, number.to, as_many) })) start obeys

  apart : (version : Version) → Obeys (served_before version instance.tree instance.assigned work start) work start
      → AreApart (IsOrdered instance.tree instance.assigned) work start
  apart V1 obeys = λ i j pair. apart_where_finished work start i j (obeys.ordered i j pair.ordered) pair.together
  apart V2 obeys = λ i j pair. apart_where_finished work start i j (obeys.ordered i j pair.ordered) pair.together
  apart V3 obeys = apart_by_issue obeys
  apart V4 obeys = apart_by_issue obeys

  alike : Obeys (served_first instance start) work start → Obeys before work start → AlikeObey instance start
  alike served obeys =
      serves_where_obeys instance.tree instance.assigned work start run instance.trace.version obeys
      (apart instance.trace.version served)

  pub certified : IsLeast (served_first instance start) work start → IsLeast before work start → IsCertified instance start chain
  certified served least =
      let forward : IsForward before work
      = started_forward instance.tree instance.assigned timings start count instance.trace.version are (λ _. served.obeys) in
      record {
        least = served;
        printed = printed;
        alike = alike served.obeys least.obeys;
        shortest = λ other obeys. least_is_shortest before work start other least obeys;
        is_chain = printed_is_chain before work forward start chain printed;
        as_long = printed_is_as_long before work forward start chain least printed;
        certificate = chains_are_within_length before work;
      }

  pub bounded : (rule : Rule) (k : ℕ) → 1 ≤ k → IsPlanOf rule instance k start → IsBounded rule instance k start chain
  bounded rule k some planned =
      let version = instance.trace.version in
      let served = busy_served version rule instance.tree instance.assigned work k start planned in
      let obeys = served.within.obeys in
      let to = served_to_started instance.tree instance.assigned timings start count version are obeys in
      let from = started_to_served instance.tree instance.assigned timings start count version are obeys in
      let busy = busy_again (served_first instance start) before work k start to from served in
      let forward : IsForward before work
      = started_forward instance.tree instance.assigned timings start count version are (λ _. obeys) in
      let is_chain = printed_is_chain before work forward start chain printed in
      let bound = list_plans_are_within_bound before work forward k start chain some busy printed in
      record {
        list = planned;
        obeys = obeys;
        at_once = served.within.within;
        printed = printed;
        is_chain = is_chain;
        alike = alike obeys busy.within.obeys;
        bound = bound;
        twice = bound_is_within_twice before work k start chain is_chain bound;
        ratio = bound_is_within_ratio before work k start chain some is_chain bound;
      }

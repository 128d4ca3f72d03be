-- Plans in which no worker idles, in the order that they serve and in that of their starts.
use Rattle.std.proofs.Common.{◌≡◌, ℕ, ◌≤◌, true, List, length}
use Rattle.waff_model.specs.Tree.{Node}
use Rattle.waff_model.specs.Versions.{has_clients}
use Rattle.waff_assign.specs.Order.{Relation}
use Rattle.waff_plan.specs.Bound.{IsWithinBound, IsWithinRatio, IsWithinTwice}
use Rattle.waff_plan.specs.Chain.{IsChain, IsPrinted}
use Rattle.waff_plan.specs.Obeys.{IsForward, Obeys}
use Rattle.waff_plan.specs.Serving.{served_in, started_in}
use Rattle.waff_plan.specs.Timetable.{IsTimetable, Timetable, starts_in, work_in}
use Rattle.waff_plan.specs.Work.{Work}
use Rattle.waff_plan.specs.Workers.{IsWorkerPlan}
use Rattle.waff_plan.proofs.Chains.{printed_is_chain}
use Rattle.waff_plan.proofs.Ratios.{bound_is_within_twice, bound_is_within_ratio}
use Rattle.waff_plan.proofs.ServingLemmas.{served_obeys_started, served_to_started, started_forward, started_to_served}
use Rattle.waff_list.specs.Bound.{IsBusyPlan}
use Rattle.waff_list.specs.ListRule.{IsReady}
use Rattle.waff_list.proofs.Graham.{list_plans_are_within_bound}
use Rattle.waff_assign.specs.Held.{Held}

module _ (tree : List Node) (assigned : List Held) (plan : Timetable) (table : IsTimetable plan) (same : length plan.timings ≡ length assigned) (k : ℕ) where
  abbrev served : Relation
  served = served_in tree assigned plan

  abbrev started : Relation
  started = started_in tree assigned plan

  abbrev work : Work
  work = work_in plan

  abbrev start : ℕ → ℕ
  start = starts_in plan

  module _ (busy : IsBusyPlan served work k start) where
    busy_started : IsBusyPlan started work k start
    busy_started = record {
      within = record {
        obeys = served_obeys_started tree assigned plan.timings start same plan.version table.timings busy.within.obeys;
        within = busy.within.within;
      };
      busy = λ t m ready.
          let there : IsReady served work start t m = record {
            number = ready.number;
            issued = ready.issued;
            free = λ i pair. ready.free i (served_to_started tree assigned plan.timings start same plan.version table.timings busy.within.obeys i m pair);
          } in
          busy.busy t m there;
    }

    worker_started : (other : ℕ → ℕ) → IsWorkerPlan served work k other → IsWorkerPlan started work k other
    worker_started other h = record {
      obeys = record {
        issued = h.obeys.issued;
        ordered = λ i j pair. h.obeys.ordered i j (started_to_served tree assigned plan.timings start same plan.version table.timings busy.within.obeys i j pair);
      };
      within = h.within;
    }

  module _ (obeys : has_clients plan.version ≡ true → Obeys served work start) (some : 1 ≤ k) (chain : List ℕ) (printed : IsPrinted started work start chain) where
    forward : IsForward started work
    forward = started_forward tree assigned plan.timings start same plan.version table.timings obeys

    is_chain : IsChain started work chain
    is_chain = printed_is_chain started work forward start chain printed

    pub served_within : IsBusyPlan served work k start → IsWithinBound work k start chain
    served_within busy = list_plans_are_within_bound started work forward k start chain some (busy_started busy) printed

    pub served_within_twice : IsBusyPlan served work k start → IsWithinTwice served work k start
    served_within_twice busy other h = bound_is_within_twice started work k start chain is_chain (served_within busy) other (worker_started busy other h)

    pub served_within_ratio : IsBusyPlan served work k start → IsWithinRatio served work k start
    served_within_ratio busy releases thinks other h =
        bound_is_within_ratio started work k start chain some is_chain (served_within busy) releases thinks other (worker_started busy other h)

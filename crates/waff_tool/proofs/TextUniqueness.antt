-- Of the same bytes each command has one text.
use Rattle.std.proofs.Common.{◌≡◌, ℕ, ◌↔◌, inl, inr, Bool, true, false, ◌||◌, IsTrue, List, Option, Some, None, Ok, refl, sym, ◌∙◌, ap, subst}
use Rattle.std.proofs.lemmas.Bool.Decides.{same_from_decides}
use Rattle.waff_model.specs.Layout.{Hierarchy, has_locks}
use Rattle.waff_model.specs.Messages.{Arrivals}
use Rattle.waff_model.specs.Tree.{IsTree}
use Rattle.waff_model.specs.Unique.{AtMostOne}
use Rattle.waff_model.specs.declared.kind.Kind.{Kind}
use Rattle.waff_inputs.specs.Known.{newest, trace_of}
use Rattle.waff_read.proofs.LimitLaws.{trace_is_within_limits}
use Rattle.waff_assign.specs.Instance.{Instance}
use Rattle.waff_assign.specs.Order.{Refines}
use Rattle.waff_assign.proofs.Uniqueness.{assignment_is_one}
use Rattle.waff_plan.specs.Instances.{work_of_instance}
use Rattle.waff_plan.specs.Obeys.{AwaitsEarlier}
use Rattle.waff_plan.specs.Timetable.{work_of_messages}
use Rattle.waff_plan.specs.Timing.{start_of}
use Rattle.waff_plan.specs.Totals.{totals_of}
use Rattle.waff_plan.specs.Work.{total_of}
use Rattle.waff_plan.specs.declared.totals.Totals.{Totals}
use Rattle.waff_list.specs.Seating.{worker_of}
use Rattle.waff_list.specs.Unique.{EachRuns}
use Rattle.waff_list.specs.declared.rule.Rule.{Rule}
use Rattle.waff_list.specs.declared.rule.Rule.TheVariants.{Arrival}
use Rattle.waff_list.proofs.SeatsUniqueness.{seats_are_one}
use Rattle.waff_list.proofs.TraceWork.{trace_is_small}
use Rattle.waff_plan_text.specs.Lines.{text_of}
use Rattle.waff_plan_text.specs.Spelling.{no_worker, seat_of, unlimited_lines, worker_lines}
use Rattle.waff_plan.proofs.TimingLemmas.{are_timings}
use Rattle.waff_plan.proofs.Uniqueness.{totals_same}
use Rattle.waff_inputs.specs.Inputs.{Accepts, instance_under}
use Rattle.waff_inputs.proofs.SameInput.{layout_tree, same_ok, same_trace}
use Rattle.waff_tool.specs.PlanText.{TellsLeastPlan, TellsPlan, TellsWorkerPlan}
use Rattle.waff_tool.specs.Comparison.{AreModels, IsCompareText, IsCompared, IsMeasured, IsToldWhere, compare_lines, models_in}
use Rattle.waff_tool.proofs.ComparisonRefusals.{models_read}
use Rattle.waff_tool.specs.declared.measures.Measured.{Measured}
use Rattle.waff_tool.proofs.PlanUniqueness.{IsSound, chain_in_one, least_in_one, rule_in_one}
use Rattle.waff_tool.proofs.LineLaws.{lines_same}
use Rattle.waff_assign.specs.Held.{Held}

-- each message of a trace that is read runs
pub trace_runs : (layout : Hierarchy) (file : List ℕ) (trace : Arrivals) → trace_of layout.spaces file ≡ Ok trace → EachRuns (work_of_messages trace.messages)
trace_runs layout file trace read =
    let small = trace_is_small trace (trace_is_within_limits newest layout.spaces file trace read) in
    small.some_cost

-- and awaits earlier ones
pub trace_awaits : (layout : Hierarchy) (file : List ℕ) (trace : Arrivals) → trace_of layout.spaces file ≡ Ok trace → AwaitsEarlier (work_of_messages trace.messages)
trace_awaits layout file trace read = (are_timings trace (trace_is_within_limits newest layout.spaces file trace read)).earlier

-- an instance that is accepted
module _ (hierarchy_file trace_file : List ℕ) (instance : Instance) (accepts : Accepts hierarchy_file trace_file instance) where
  pub is_sound : IsSound instance
  is_sound = record {
    same = accepts.assignment.count;
    runs = trace_runs accepts.layout trace_file instance.trace accepts.is_trace;
    earlier = trace_awaits accepts.layout trace_file instance.trace accepts.is_trace;
  }

-- the plan without workers, and by a rule for k workers
module _ (instance : Instance) (sound : IsSound instance) where
  least_plan_is_one : AtMostOne (TellsLeastPlan instance)
  least_plan_is_one text other p q =
      let work = work_of_instance instance in
      let same = least_in_one instance sound (start_of p.starts) (start_of q.starts) p.certified.least q.certified.least in
      let chains = chain_in_one instance sound (start_of p.starts) (start_of q.starts) p.chain q.chain p.certified.least.obeys.issued same
      p.certified.printed q.certified.printed in
      p.lines
      ∙ ap text_of (lines_same instance.trace.version instance.tree instance.assigned work None (start_of p.starts) (start_of q.starts) no_worker no_worker p.chain same (λ m number. refl))
      ∙ ap (λ c. text_of (unlimited_lines instance.trace.version instance.tree instance.assigned work (start_of q.starts) c)) chains
      ∙ sym q.lines

  worker_plan_is_one : (rule : Rule) (k : ℕ) → AtMostOne (TellsWorkerPlan rule k instance)
  worker_plan_is_one rule k text other p q =
      let work = work_of_instance instance in
      let same = rule_in_one instance sound rule k (start_of p.starts) (start_of q.starts) p.bounded.list q.bounded.list in
      let sat = seats_are_one work (start_of p.starts) (start_of q.starts) (worker_of p.workers) (worker_of q.workers) same p.seated q.seated in
      let chains = chain_in_one instance sound (start_of p.starts) (start_of q.starts) p.chain q.chain p.bounded.obeys.issued same
      p.bounded.printed q.bounded.printed in
      p.lines
      ∙ ap text_of (lines_same instance.trace.version instance.tree instance.assigned work (Some k) (start_of p.starts) (start_of q.starts) (seat_of p.workers) (seat_of q.workers) p.chain same
      (λ m number. ap Some (sat m number)))
      ∙ ap (λ c. text_of (worker_lines instance.trace.version instance.tree instance.assigned work k (start_of q.starts) q.workers c)) chains
      ∙ sym q.lines

  pub plan_is_one : (rule : Rule) (workers : Option ℕ) → AtMostOne (TellsPlan rule workers instance)
  plan_is_one rule None text other p q = least_plan_is_one text other p q
  plan_is_one rule (Some k) text other p q = worker_plan_is_one rule k text other p q

-- what is told of a trace under one hierarchy
made_of : Kind → Totals → Totals → Measured
made_of kind unlimited listed = record { kind = kind; unlimited = unlimited; listed = listed }

same_measured : (one other : Measured) → one.kind ≡ other.kind → one.unlimited ≡ other.unlimited → one.listed ≡ other.listed → one ≡ other
unfolding made_of
same_measured one other kinds unlimited listed =
    ap (λ k. made_of k one.unlimited one.listed) kinds
    ∙ ap (λ t. made_of other.kind t one.listed) unlimited
    ∙ ap (λ t. made_of other.kind other.unlimited t) listed

measured_is_one : (layout : Hierarchy) (assigned : List Held) (trace : Arrivals) (k : ℕ) → IsSound (instance_under layout assigned trace)
    → AtMostOne (IsMeasured layout assigned trace k)
measured_is_one layout assigned trace k sound one other p q =
    let instance = instance_under layout assigned trace in
    let work = work_of_instance instance in
    let same = least_in_one instance sound (start_of p.least.starts) (start_of q.least.starts) p.least.certified.least q.least.certified.least in
    let chains = chain_in_one instance sound (start_of p.least.starts) (start_of q.least.starts) p.least.chain q.least.chain p.least.certified.least.obeys.issued same
    p.least.certified.printed q.least.certified.printed in
    let same_list = rule_in_one instance sound Arrival k (start_of p.by_arrival.starts) (start_of q.by_arrival.starts) p.by_arrival.bounded.list q.by_arrival.bounded.list in
    let list_chains = chain_in_one instance sound (start_of p.by_arrival.starts) (start_of q.by_arrival.starts) p.by_arrival.chain q.by_arrival.chain
    p.by_arrival.bounded.obeys.issued same_list p.by_arrival.bounded.printed q.by_arrival.bounded.printed in
    same_measured one other (p.kind ∙ sym q.kind)
    (p.least.told ∙ totals_same None work (start_of p.least.starts) (start_of q.least.starts) p.least.chain same
    ∙ ap (λ c. totals_of None work (start_of q.least.starts) c) chains ∙ sym q.least.told)
    (p.by_arrival.told ∙ totals_same (Some k) work (start_of p.by_arrival.starts) (start_of q.by_arrival.starts) p.by_arrival.chain same_list
    ∙ ap (λ c. totals_of (Some k) work (start_of q.by_arrival.starts) c) list_chains ∙ sym q.by_arrival.told)

-- whether a fact holds is told in one way
told_is_one : (locks : Bool) (Fact : Type 0) (one other : Option Bool) → IsToldWhere locks Fact one → IsToldWhere locks Fact other → one ≡ other
told_is_one true Fact one other p q = p ∙ sym q
told_is_one false Fact one other p q = p.1 ∙ ap Some (same_from_decides p.0 q.0 p.2 q.2) ∙ sym q.1

-- the comparison
compared_is_one : (classical hierarchical : Hierarchy) (trace : Arrivals) (k : ℕ) (text other : List ℕ) → IsTree classical.tree → IsTree hierarchical.tree
    → EachRuns (work_of_messages trace.messages) → AwaitsEarlier (work_of_messages trace.messages) → IsCompared classical hierarchical trace k text → IsCompared classical hierarchical trace k other → text ≡ other
compared_is_one classical hierarchical trace k text other tree fine_tree runs earlier p q =
    let work = work_of_messages trace.messages in
    let coarse = assignment_is_one classical trace.messages tree p.coarse q.coarse p.coarse_assignment q.coarse_assignment in
    let fine = assignment_is_one hierarchical trace.messages fine_tree p.fine q.fine p.fine_assignment q.fine_assignment in
    let of_classical = measured_is_one classical p.coarse trace k (record { same = p.coarse_assignment.count; runs = runs; earlier = earlier })
    p.of_classical q.of_classical p.classical_measured
    (subst (λ a. IsMeasured classical a trace k q.of_classical) (sym coarse) q.classical_measured) in
    let of_hierarchical = measured_is_one hierarchical p.fine trace k (record { same = p.fine_assignment.count; runs = runs; earlier = earlier })
    p.of_hierarchical q.of_hierarchical p.hierarchical_measured
    (subst (λ a. IsMeasured hierarchical a trace k q.of_hierarchical) (sym fine) q.hierarchical_measured) in
    let locks = has_locks classical.spaces || has_locks hierarchical.spaces in
    let told : IsToldWhere locks (Refines hierarchical.tree p.fine classical.tree p.coarse) q.refined =
    subst (λ a. IsToldWhere locks (Refines hierarchical.tree p.fine classical.tree a) q.refined) (sym coarse)
    (subst (λ a. IsToldWhere locks (Refines hierarchical.tree a classical.tree q.coarse) q.refined) (sym fine) q.told) in
    let refined : p.refined ≡ q.refined = told_is_one locks (Refines hierarchical.tree p.fine classical.tree p.coarse) p.refined q.refined p.told told in
    p.lines
    ∙ ap (λ m. text_of (compare_lines trace.version k (total_of work) m p.of_hierarchical p.refined)) of_classical
    ∙ ap (λ m. text_of (compare_lines trace.version k (total_of work) q.of_classical m p.refined)) of_hierarchical
    ∙ ap (λ r. text_of (compare_lines trace.version k (total_of work) q.of_classical q.of_hierarchical r)) refined
    ∙ sym q.lines

-- two files are a classical and a hierarchical hierarchy in one way
pub same_models : (first second : List ℕ) (classical hierarchical coarse fine : Hierarchy) → AreModels first second classical hierarchical
    → AreModels first second coarse fine → (classical ≡ coarse) × (hierarchical ≡ fine)
same_models first second classical hierarchical coarse fine p q =
    let same = same_ok (models_in first second) (classical, hierarchical) (coarse, fine)
    (models_read first second classical hierarchical p) (models_read first second coarse fine q) in
    (ap (λ (m : Hierarchy × Hierarchy). m.0) same, ap (λ (m : Hierarchy × Hierarchy). m.1) same)

models_trees : (first second : List ℕ) (classical hierarchical : Hierarchy) → AreModels first second classical hierarchical
    → IsTree classical.tree × IsTree hierarchical.tree
models_trees first second classical hierarchical p = elim p.files [
  | inl (one, two) ↦ (layout_tree first classical one, layout_tree second hierarchical two)
  | inr (one, two) ↦ (layout_tree second classical two, layout_tree first hierarchical one)
]

pub compare_text_is_one : (first second trace_file : List ℕ) (k : ℕ) → AtMostOne (IsCompareText first second trace_file k)
compare_text_is_one first second trace_file k text other p q =
    let models = same_models first second p.classical p.hierarchical q.classical q.hierarchical p.models q.models in
    let trace = same_trace p.classical q.classical trace_file p.trace q.trace models.0 p.is_trace q.is_trace in
    let trees = models_trees first second p.classical p.hierarchical p.models in
    let compared = subst (λ l. IsCompared l p.hierarchical p.trace k other) (sym models.0)
    (subst (λ l. IsCompared q.classical l p.trace k other) (sym models.1)
    (subst (λ t. IsCompared q.classical q.hierarchical t k other) (sym trace) q.compared)) in
    compared_is_one p.classical p.hierarchical p.trace k text other trees.0 trees.1
    (trace_runs p.classical trace_file p.trace p.is_trace) (trace_awaits p.classical trace_file p.trace p.is_trace) p.compared compared

-- The plans that are printed pass the check.
use Rattle.std.proofs.Common.{◌≡◌, ◌≢◌, ℕ, ◌+◌, ◌-◌, ◌*◌, ◌<◌, ◌≤◌, inl, inr, Bool, true, false, List, length, cond, count_by, Option, Some, None, sym, ap, ◌∙◌, arith, subst}
use Rattle.std.specs.Prelude.{All, nat_le, nat_lt, ◌&&◌}
use Rattle.std.specs.List.{range_with_len}
use Rattle.std.proofs.lemmas.Bool.{and_from, and_parts, cases_lt, cases_order, le-leb, leb-true, lt-ltb, ltb-true}
use Rattle.std.proofs.Math.Nat.{mul-le-mul}
use Rattle.waff_model.specs.Messages.{IsTrace}
use Rattle.waff_model.specs.Names.{is_name}
use Rattle.waff_model.specs.Tree.{IsTree, Node}
use Rattle.waff_model.specs.declared.limits.TheConstants.{MAX_COST, MAX_MESSAGES, MAX_RELEASE, MAX_THINK, MAX_TICK, MAX_WORKERS}
use Rattle.waff_model.specs.Versions.{has_clients}
use Rattle.waff_read.proofs.FaultLaws.{trace_is_exact}
use Rattle.waff_read.proofs.LimitLaws.{layout_is_within_limits, trace_is_within_limits}
use Rattle.waff_read.proofs.NamedLaws.{affinities_are_named}
use Rattle.waff_assign.specs.Instance.{Instance}
use Rattle.waff_assign.specs.Order.{Relation, affinity_name}
use Rattle.waff_assign.proofs.Knowing.{are_known}
use Rattle.waff_plan.specs.Bound.{IsWorkers, left_side, right_side}
use Rattle.waff_plan.specs.Chain.{IsChain, IsListed, chain_cost, chain_release}
use Rattle.waff_plan.specs.Instances.{served_first, started_first, work_of_instance}
use Rattle.waff_plan.specs.Obeys.{AwaitsEarlier, IsForward, Obeys}
use Rattle.waff_plan.specs.Timetable.{timings_of}
use Rattle.waff_plan.specs.Timing.{start_of}
use Rattle.waff_plan.specs.Work.{Work, IsNumber, finish_of, length_of}
use Rattle.waff_plan.specs.Workers.{running, runs_at}
use Rattle.waff_plan.proofs.Linkings.{chain_is_few, chain_is_numbers}
use Rattle.waff_plan.proofs.ServingLemmas.{started_forward}
use Rattle.waff_plan.proofs.Ticks.{sum_by-numbers-le}
use Rattle.waff_plan.proofs.TimingLemmas.{are_timings}
use Rattle.waff_list.specs.Seating.{worker_of}
use Rattle.waff_list.specs.Seats.{ComesBefore, HoldsWorker, IsSeated}
use Rattle.waff_list.specs.declared.rule.Rule.{Rule}
use Rattle.waff_list.proofs.Pigeonhole.{runs_on_all}
use Rattle.waff_list.proofs.TraceWork.{count_is}
use Rattle.waff_plan_text.specs.Given.{Given}
use Rattle.waff_plan_text.specs.Laws.{IsTellable, plan_told}
use Rattle.waff_plan_text.specs.PlanTexts.{plan_of}
use Rattle.waff_plan_text.specs.Lines.{text_of}
use Rattle.waff_plan_text.specs.Spelling.{no_worker, plan_lines, seat_of}
use Rattle.waff_plan_text.proofs.WrittenPlans.{written_is_read}
use Rattle.waff_check.specs.OwnPlans.{IsFoundShortWhere, claim_told}
use Rattle.waff_check.specs.Promises.{AreOneAtATime}
use Rattle.waff_check.specs.Verdicts.{Claim, IsVerdict}
use Rattle.waff_check.specs.declared.verdict.Verdict.{Verdict}
use Rattle.waff_check.specs.declared.verdict.Verdict.TheVariants as verdict
use Rattle.waff_check.proofs.OwnLaws.{own_plan_is_shortest, own_plan_is_within_bound}
use Rattle.waff_check.proofs.Tellable.{IsModest, chain_cost_within, chain_release_within, modest, tellable, told_names, told_promises, total_within}
use Rattle.waff_inputs.specs.Inputs as inputs
use Rattle.waff_inputs.specs.Known.{newest}
use Rattle.waff_inputs.proofs.SameInput.{layout_tree}
use Rattle.waff_tool.specs.CheckText.{AcceptsPlan, IsCheckText}
use Rattle.waff_tool.specs.PlanText.{TellsLeastPlan, TellsWorkerPlan}
use Rattle.waff_tool.specs.OwnPlans.{OwnPlanPasses, OwnWorkerPlanPasses, PassesShortWhere}
use Rattle.waff_assign.specs.Held.{AreKnown}

-- a chain is a list of messages
chain_listed : (before : Relation) (work : Work) → IsForward before work → (chain : List ℕ) → IsChain before work chain → IsListed work.count chain
chain_listed before work forward chain is_chain = record {
  each = chain_is_numbers before work chain is_chain;
  few = chain_is_few before work forward chain is_chain;
}

-- of two tests at most as many pass both as pass the first
both_pass : (a b : Bool) → cond {A = ℕ} (a && b) 1 0 ≤ cond a 1 0
both_pass true true = omega arith
both_pass true false = omega arith
both_pass false b = omega arith

-- the workers of a plan for k workers
module _ (work : Work) (start worker : ℕ → ℕ) (some_cost : (m : ℕ) → IsNumber work m → 1 ≤ work.cost m)
    (seated : (m : ℕ) → IsNumber work m → IsSeated work start worker m) where
  no_later : (i j : ℕ) → ComesBefore start i j → start i ≤ start j
  no_later i j (inl sooner) = omega arith
  no_later i j (inr first) = omega (arith, first.0)

  -- of two messages that run together the one that comes before the other holds its worker
  holds : (i j t : ℕ) → IsNumber work i → ComesBefore start i j → runs_at work start t i ≡ true → runs_at work start t j ≡ true → HoldsWorker work start i j
  holds i j t number sooner i_runs j_runs =
      let ends = ltb-true t (finish_of work start i) (and_parts (nat_le (start i) t) (nat_lt t (finish_of work start i)) i_runs).1 in
      let begins = leb-true (start j) t (and_parts (nat_le (start j) t) (nat_lt t (finish_of work start j)) j_runs).0 in
      record {
        number = number;
        sooner = sooner;
        runs = and_from (nat_le (start i) (start j)) (nat_lt (start j) (finish_of work start i))
            (le-leb (start i) (start j) (no_later i j sooner)) (lt-ltb (start j) (finish_of work start i) (omega (arith, ends, begins)));
      }

  apart : (i j t : ℕ) → IsNumber work i → IsNumber work j → i < j → runs_at work start t i ≡ true → runs_at work start t j ≡ true → worker i ≢ worker j
  apart i j t i_number j_number earlier i_runs j_runs equal = elim (cases_order (start i) (start j)) [
    | inl same ↦ (seated j j_number).free i (holds i j t i_number (inr (same, earlier)) i_runs j_runs) equal
    | inr (inl below) ↦ (seated j j_number).free i (holds i j t i_number (inl below) i_runs j_runs) equal
    | inr (inr above) ↦ (seated i i_number).free j (holds j i t j_number (inl above) j_runs i_runs) (sym equal)
  ]

  -- each worker up to that of m has a message that runs when m starts
  runs_itself : (m : ℕ) → IsNumber work m → runs_at work start (start m) m ≡ true
  runs_itself m number =
      let some = some_cost m number in
      and_from (nat_le (start m) (start m)) (nat_lt (start m) (finish_of work start m)) (le-leb (start m) (start m) (omega arith))
      (lt-ltb (start m) (finish_of work start m) (omega (arith, some)))

  module _ (m : ℕ) (number : IsNumber work m) where
    on_workers : ℕ → Bool
    on_workers i = runs_at work start (start m) i && nat_le (worker i) (worker m)

    runs_then : (i : ℕ) → on_workers i ≡ true → (runs_at work start (start m) i ≡ true) × (worker i ≤ worker m)
    unfolding on_workers
    runs_then i is =
        let both = and_parts (runs_at work start (start m) i) (nat_le (worker i) (worker m)) is in
        (both.0, leb-true (worker i) (worker m) both.1)

    then_runs : (i : ℕ) → runs_at work start (start m) i ≡ true → worker i ≤ worker m → on_workers i ≡ true
    unfolding on_workers
    then_runs i runs within = and_from (runs_at work start (start m) i) (nat_le (worker i) (worker m)) runs (le-leb (worker i) (worker m) within)

    on_each : (w : ℕ) → 1 ≤ w → w ≤ worker m → (i : ℕ) × (1 ≤ i) × (i < 1 + work.count) × (on_workers i ≡ true) × (worker i ≡ w)
    on_each w from to = elim (cases_lt w (worker m)) [
      | inl less ↦
          let one = (seated m number).least w from less in
          let holder = one.1 in
          let last : one.0 ≤ work.count = holder.number.to in
          (one.0, holder.number.from, omega arith, then_runs one.0 holder.runs (omega (arith, one.2, less)), one.2)
      | inr last ↦
          let is_last : m ≤ work.count = number.to in
          (m, number.from, omega arith, then_runs m (runs_itself m number) (omega arith), omega arith)
    ]

    all_run : count_by on_workers (range_with_len 1 work.count) ≡ worker m
    all_run = runs_on_all on_workers worker 1 work.count
        (λ i j from earlier to i_is j_is. apart i j (start m) (record { from = from; to = omega arith }) (record { from = omega arith; to = omega arith }) earlier
        (runs_then i i_is).0 (runs_then j j_is).0)
        (λ i from to is. (seated i (record { from = from; to = omega arith })).from)
        (worker m) (λ i from to is. (runs_then i is).1) on_each

    few_run : count_by on_workers (range_with_len 1 work.count) ≤ running work start (start m)
    unfolding on_workers
    few_run = sum_by-numbers-le work (λ i. cond (runs_at work start (start m) i && nat_le (worker i) (worker m)) 1 0) (λ i. cond (runs_at work start (start m) i) 1 0)
        (λ i i_number. both_pass (runs_at work start (start m) i) (nat_le (worker i) (worker m)))

    worker_within : worker m ≤ running work start (start m)
    worker_within = omega (arith, all_run, few_run)

some_is : (a b : ℕ) → Some a ≡ Some b → a ≡ b
some_is a b same = cc

manned : (work : Work) (start : ℕ → ℕ) (workers : List ℕ) (k : ℕ) → ((m : ℕ) → IsNumber work m → 1 ≤ work.cost m)
    → ((m : ℕ) → IsNumber work m → IsSeated work start (worker_of workers) m) → ((t : ℕ) → running work start t ≤ k)
    → AreOneAtATime work start (seat_of workers) k
manned work start workers k some_cost seated at_once = record {
  each = λ m number.
      let few = at_once (start m) in
      let within = worker_within work start (worker_of workers) some_cost seated m number in
      ((seated m number).from, omega (arith, few, within));
  apart = λ i j w i_number j_number earlier i_has j_has together.
      let i_is : worker_of workers i ≡ w = some_is (worker_of workers i) w i_has in
      let j_is : worker_of workers j ≡ w = some_is (worker_of workers j) w j_has in
      apart work start (worker_of workers) some_cost seated i j together.0 i_number j_number earlier together.1 together.2 (i_is ∙ sym j_is);
}

-- the plan that a text tells of an instance, and what makes it so
abbrev pub plan_in : Instance → Option ℕ → (ℕ → ℕ) → (ℕ → Option ℕ) → List ℕ → Given
plan_in instance workers start worker chain =
    plan_told instance.trace.version instance.tree instance.assigned (work_of_instance instance) workers start worker chain

abbrev IsFit : Instance → Option ℕ → (ℕ → ℕ) → (ℕ → Option ℕ) → List ℕ → Type 0
IsFit instance workers start worker chain =
    IsTellable instance.trace.version instance.tree instance.assigned (work_of_instance instance) workers start worker chain

abbrev lines_in : Instance → Option ℕ → (ℕ → ℕ) → (ℕ → Option ℕ) → List ℕ → List (List (List ℕ))
lines_in instance workers start worker chain =
    plan_lines instance.trace.version instance.tree instance.assigned (work_of_instance instance) workers start worker chain

-- a verdict as good as can be is one of those that pass
short_passes : (clients : Bool) (claim : Claim) (hierarchy_file trace_file text : List ℕ)
    → ((v : Verdict) → IsVerdict claim v → IsCheckText hierarchy_file trace_file text v) → IsFoundShortWhere clients claim
    → PassesShortWhere clients hierarchy_file trace_file text
short_passes false claim hierarchy_file trace_file text prints short = prints verdict.Shortest short
short_passes true claim hierarchy_file trace_file text prints (inl short) = inl (prints verdict.Shortest short)
short_passes true claim hierarchy_file trace_file text prints (inr tight) = inr (prints verdict.Tight tight)

-- what was accepted
module _ (hierarchy_file trace_file : List ℕ) (instance : Instance) (accepts : inputs.Accepts hierarchy_file trace_file instance) where
  is_trace : IsTrace instance.trace
  is_trace = trace_is_within_limits newest accepts.layout.spaces trace_file instance.trace accepts.is_trace

  pub earlier : AwaitsEarlier (work_of_instance instance)
  earlier = (are_timings instance.trace is_trace).earlier

  within_limits : IsModest instance.trace.version (work_of_instance instance)
  within_limits = modest instance.trace is_trace

  count_in : (work_of_instance instance).count ≡ length instance.trace.messages
  count_in = count_is instance.trace.messages

  -- the order of the chains of a plan that obeys goes forward
  forward : (start : ℕ → ℕ) → Obeys (served_first instance start) (work_of_instance instance) start
      → IsForward (started_first instance start) (work_of_instance instance)
  forward start obeys =
      started_forward instance.tree instance.assigned (timings_of instance.trace.messages) start (count_in ∙ sym accepts.assignment.count)
      instance.trace.version (are_timings instance.trace is_trace) (λ third. obeys)

  -- what messages hold is of the hierarchy
  known : AreKnown accepts.layout.tree instance.assigned
  known =
      let layout = accepts.layout in
      let reads = (trace_is_exact newest layout.spaces trace_file instance.trace).0 accepts.is_trace in
      are_known layout (layout_is_within_limits hierarchy_file layout accepts.is_layout) instance.trace instance.assigned is_trace reads.sizes accepts.assignment

  all_known : AreKnown instance.tree instance.assigned
  all_known = subst (λ tree. AreKnown tree instance.assigned) accepts.tree known

  named : (n : ℕ) → IsNumber (work_of_instance instance) n → is_name (affinity_name instance.tree instance.assigned n) ≡ true
  named n number =
      let layout = accepts.layout in
      let from : 1 ≤ n = number.from in
      let to : n ≤ (work_of_instance instance).count = number.to in
      told_names instance.tree instance.assigned
      (subst (λ (tree : List Node). All (λ (node : Node). is_name node.name ≡ true) tree) accepts.tree (affinities_are_named hierarchy_file layout accepts.is_layout))
      all_known n (record { from = from; to = omega (arith, to, count_in, accepts.assignment.count) })

  -- a plan that is told is read
  accepted_plan : (text : List ℕ) (workers : Option ℕ) (start : ℕ → ℕ) (worker : ℕ → Option ℕ) (chain : List ℕ) → IsFit instance workers start worker chain
      → text ≡ text_of (lines_in instance workers start worker chain) → AcceptsPlan hierarchy_file trace_file text instance (plan_in instance workers start worker chain)
  accepted_plan text workers start worker chain can lines =
      let work = work_of_instance instance in
      let version = instance.trace.version in
      record {
        accepts = accepts;
        is_plan = ap (plan_of version (length instance.trace.messages)) lines
            ∙ ap (λ n. plan_of version n (text_of (lines_in instance workers start worker chain))) (sym count_in)
            ∙ written_is_read version instance.tree instance.assigned work workers start worker chain can;
      }

  -- and a verdict on it is what the check prints
  checked : (text : List ℕ) (workers : Option ℕ) (start : ℕ → ℕ) (worker : ℕ → Option ℕ) (chain : List ℕ)
      → IsFit instance workers start worker chain → AcceptsPlan hierarchy_file trace_file text instance (plan_in instance workers start worker chain)
      → (v : Verdict) → IsVerdict (claim_told instance workers start worker chain) v → IsCheckText hierarchy_file trace_file text v
  checked text workers start worker chain can read v is =
      let tree = subst IsTree accepts.tree (layout_tree hierarchy_file accepts.layout accepts.is_layout) in
      record {
        instance = instance;
        given = plan_in instance workers start worker chain;
        accepts = read;
        verdict = is;
        promises = told_promises instance is_trace accepts.assignment.count all_known tree workers start worker chain can v is;
      }

  -- that of a plan without workers
  own_plan_fits : (text : List ℕ) (told : TellsLeastPlan instance text) → IsFit instance None (start_of told.starts) no_worker told.chain
  own_plan_fits text told =
      let work = work_of_instance instance in
      let start = start_of told.starts in
      let listed = chain_listed (started_first instance start) work (forward start told.certified.least.obeys) told.chain told.certified.is_chain in
      let version = instance.trace.version in
      let cost = chain_cost_within version work within_limits told.chain listed in
      let release = chain_release_within version work within_limits told.chain listed in
      let as_long = told.certified.as_long in
      let short : length_of work start ≤ MAX_TICK = omega (arith, as_long, cost, release) in
      tellable version work within_limits told.chain listed instance.tree instance.assigned None start no_worker
      named (λ n number. tt) tt short short (omega (arith, cost, release))

  pub own_plan_read : (text : List ℕ) (told : TellsLeastPlan instance text)
      → AcceptsPlan hierarchy_file trace_file text instance (plan_in instance None (start_of told.starts) no_worker told.chain)
  own_plan_read text told = accepted_plan text None (start_of told.starts) no_worker told.chain (own_plan_fits text told) told.lines

  -- the workers of a plan for k workers
  crew_of : (rule : Rule) (k : ℕ) (text : List ℕ) (told : TellsWorkerPlan rule k instance text)
      → AreOneAtATime (work_of_instance instance) (start_of told.starts) (seat_of told.workers) k
  crew_of rule k text told =
      manned (work_of_instance instance) (start_of told.starts) told.workers k within_limits.some_cost told.seated told.bounded.at_once

  own_worker_plan_fits : (rule : Rule) (k : ℕ) (text : List ℕ) → IsWorkers k → (told : TellsWorkerPlan rule k instance text)
      → IsFit instance (Some k) (start_of told.starts) (seat_of told.workers) told.chain
  own_worker_plan_fits rule k text workers told =
      let work = work_of_instance instance in
      let start = start_of told.starts in
      let listed = chain_listed (started_first instance start) work (forward start told.bounded.obeys) told.chain told.bounded.is_chain in
      let version = instance.trace.version in
      let cost = chain_cost_within version work within_limits told.chain listed in
      let release = chain_release_within version work within_limits told.chain listed in
      let total = total_within version work within_limits in
      let from : 1 ≤ k = workers.from in
      let to : k ≤ MAX_WORKERS = workers.to in
      let releases : k * chain_release work told.chain ≤ MAX_WORKERS * (MAX_RELEASE + MAX_MESSAGES * MAX_THINK) = mul-le-mul to release in
      let fewer : k - 1 ≤ MAX_WORKERS - 1 = omega arith in
      let costs : (k - 1) * chain_cost work told.chain ≤ (MAX_WORKERS - 1) * (MAX_MESSAGES * MAX_COST) = mul-le-mul fewer cost in
      let right : right_side work k told.chain ≤ MAX_TICK = omega (arith, total, releases, costs) in
      let bound : left_side work k start ≤ right_side work k told.chain = told.bounded.bound in
      let left : left_side work k start ≤ MAX_TICK = omega (arith, bound, right) in
      let once : 1 * length_of work start ≤ k * length_of work start = mul-le-mul from (omega arith) in
      let short : length_of work start ≤ MAX_TICK = omega (arith, once, left) in
      let crew = crew_of rule k text told in
      tellable version work within_limits told.chain listed instance.tree instance.assigned (Some k) start (seat_of told.workers)
      named (λ n number. let one = crew.each n number in let last = one.1 in omega (arith, to, last)) workers short left right

  pub own_worker_plan_read : (rule : Rule) (k : ℕ) (text : List ℕ) → IsWorkers k → (told : TellsWorkerPlan rule k instance text)
      → AcceptsPlan hierarchy_file trace_file text instance (plan_in instance (Some k) (start_of told.starts) (seat_of told.workers) told.chain)
  own_worker_plan_read rule k text workers told =
      accepted_plan text (Some k) (start_of told.starts) (seat_of told.workers) told.chain (own_worker_plan_fits rule k text workers told) told.lines

pub own_plan_passes : (hierarchy_file trace_file text : List ℕ) → OwnPlanPasses hierarchy_file trace_file text
own_plan_passes hierarchy_file trace_file text p =
    let i = p.instance in
    let told = p.told in
    let start = start_of told.starts in
    let obeys = told.certified.least.obeys in
    let is_chain = told.certified.is_chain in
    short_passes (has_clients i.trace.version) (claim_told i None start no_worker told.chain) hierarchy_file trace_file text
    (checked hierarchy_file trace_file i p.accepts text None start no_worker told.chain
    (own_plan_fits hierarchy_file trace_file i p.accepts text told) (own_plan_read hierarchy_file trace_file i p.accepts text told))
    (own_plan_is_shortest i start told.chain p.accepts.assignment.count (earlier hierarchy_file trace_file i p.accepts) obeys is_chain told.certified.as_long)

pub own_worker_plan_passes : (rule : Rule) (hierarchy_file trace_file : List ℕ) (k : ℕ) (text : List ℕ) → OwnWorkerPlanPasses rule hierarchy_file trace_file k text
own_worker_plan_passes rule hierarchy_file trace_file k text workers p =
    let i = p.instance in
    let told = p.told in
    let start = start_of told.starts in
    let obeys = told.bounded.obeys in
    let is_chain = told.bounded.is_chain in
    let prints = checked hierarchy_file trace_file i p.accepts text (Some k) start (seat_of told.workers) told.chain
    (own_worker_plan_fits hierarchy_file trace_file i p.accepts rule k text workers told) (own_worker_plan_read hierarchy_file trace_file i p.accepts rule k text workers told) in
    elim (own_plan_is_within_bound i k start (seat_of told.workers) told.chain p.accepts.assignment.count (earlier hierarchy_file trace_file i p.accepts)
    (record { obeys = obeys; within = told.bounded.at_once }) (crew_of hierarchy_file trace_file i p.accepts rule k text told) is_chain told.bounded.bound) [
      | inl short ↦ inl (short_passes (has_clients i.trace.version) (claim_told i (Some k) start (seat_of told.workers) told.chain) hierarchy_file trace_file text prints short)
      | inr within ↦ inr (prints verdict.WithinBound within)
    ]

-- What is told of a trace of the fourth version without lists is told of the same trace of the third, and back.
use Rattle.std.proofs.Common.{◌≡◌, ℕ, Bool, false, List, Option, Some, None, ◌∙◌, ap}
use Rattle.waff_model.specs.Layout.{Hierarchy, Space, has_locks}
use Rattle.waff_model.specs.Messages.{Arrivals}
use Rattle.waff_model.specs.Tree.{Node}
use Rattle.waff_model.specs.declared.kind.Kind.{Kind}
use Rattle.waff_model.specs.declared.message.Message.{Message}
use Rattle.waff_model.specs.declared.message.Version.{Version}
use Rattle.waff_assign.specs.Instance.{Instance}
use Rattle.waff_plan.specs.Timetable.{work_of_messages}
use Rattle.waff_plan.specs.Timing.{start_of}
use Rattle.waff_plan.specs.Work.{Work}
use Rattle.waff_plan.specs.declared.totals.Totals.{Totals}
use Rattle.waff_list.specs.declared.rule.Rule.{Rule}
use Rattle.waff_list.specs.declared.rule.Rule.TheVariants.{Arrival}
use Rattle.waff_plan_text.specs.Lines.{text_of}
use Rattle.waff_plan_text.specs.Spelling.{no_worker, seat_of}
use Rattle.waff_figures.specs.Sweep.{AreListed, IsListed, sweep_workers}
use Rattle.waff_figures.specs.declared.figures.Figures.{Figures}
use Rattle.waff_figures.specs.declared.grouping.Columns.{Columns}
use Rattle.waff_figures.specs.declared.grouping.Grouping.{Grouping}
use Rattle.waff_figures.specs.declared.grouping.Label.{Label}
use Rattle.waff_figures.specs.declared.told.Told.{Told}
use Rattle.waff_figures.specs.declared.told.Told.TheVariants as told
use Rattle.waff_limits.specs.Limits.{AreLimits}
use Rattle.waff_limits.specs.declared.limits.Limits.{Limits}
use Rattle.waff_tool.specs.Certificates.{IsBounded, IsCertified, IsChained}
use Rattle.waff_tool.specs.Comparison.{AreCertifiedTotals, AreListTotals, IsCompared, IsMeasured}
use Rattle.waff_tool.specs.Earlier.{asks_limits}
use Rattle.waff_tool.specs.Figures.{TellsSweep}
use Rattle.waff_tool.specs.NeedsText.{TellsNeeds}
use Rattle.waff_tool.specs.PlanText.{TellsLeastPlan, TellsPlan, TellsWorkerPlan}
use Rattle.waff_tool.specs.Ranks.{IsRankedUnder}
use Rattle.waff_tool.specs.Rate.{AreRated}
use Rattle.waff_tool.specs.Told.{Tells, numbers_or}
use Rattle.waff_tool.specs.WaitsText.{IsPlanFor, TellsWaits}
use Rattle.waff_tool.specs.WhereText.{TellsSpent, TellsWhere}
use Rattle.waff_tool.specs.WhyText.{TellsWhy}
use Rattle.waff_tool.specs.WorstText.{TellsWorst}
use Rattle.waff_tool.specs.declared.measures.Measured.{Measured}
use Rattle.waff_tool.specs.declared.ranks.Ranked.{Ranked}
use Rattle.waff_tool.proofs.EarlierLocks.{locks}
use Rattle.waff_tool.proofs.EarlierReadings.{Both, down, lines_same, up}
use Rattle.waff_assign.specs.Held.{Held}

-- a trace of these messages, and an instance of it, of either version
abbrev pub trace_in : List ℕ → List Message → Version → Arrivals
trace_in sizes messages version = record { version = version; sizes = sizes; messages = messages }

abbrev pub instance_in : List Node → List Held → List ℕ → List Message → Version → Instance
instance_in tree assigned sizes messages version = record { tree = tree; assigned = assigned; trace = trace_in sizes messages version }

module _ (tree : List Node) (assigned : List Held) (sizes : List ℕ) (messages : List Message) where
  abbrev in_version : Version → Instance
  in_version = instance_in tree assigned sizes messages

  abbrev work : Work
  work = work_of_messages messages

  -- plans with their printed chains
  certified : {v w : Version} → Both v w → (start : ℕ → ℕ) (chain : List ℕ) → IsCertified (in_version v) start chain → IsCertified (in_version w) start chain
  certified down start chain p = record {
    least = p.least;
    printed = p.printed;
    alike = p.alike;
    shortest = p.shortest;
    is_chain = p.is_chain;
    as_long = p.as_long;
    certificate = p.certificate;
  }
  certified up start chain p = record {
    least = p.least;
    printed = p.printed;
    alike = p.alike;
    shortest = p.shortest;
    is_chain = p.is_chain;
    as_long = p.as_long;
    certificate = p.certificate;
  }

  bounded : {v w : Version} → Both v w → (rule : Rule) (k : ℕ) (start : ℕ → ℕ) (chain : List ℕ) → IsBounded rule (in_version v) k start chain
      → IsBounded rule (in_version w) k start chain
  bounded down rule k start chain p = record {
    list = p.list;
    obeys = p.obeys;
    at_once = p.at_once;
    printed = p.printed;
    is_chain = p.is_chain;
    alike = p.alike;
    bound = p.bound;
    twice = p.twice;
    ratio = p.ratio;
  }
  bounded up rule k start chain p = record {
    list = p.list;
    obeys = p.obeys;
    at_once = p.at_once;
    printed = p.printed;
    is_chain = p.is_chain;
    alike = p.alike;
    bound = p.bound;
    twice = p.twice;
    ratio = p.ratio;
  }

  chained : {v w : Version} → Both v w → (rule : Rule) (workers : Option ℕ) (start : ℕ → ℕ) (chain : List ℕ)
      → IsChained rule (in_version v) workers start chain → IsChained rule (in_version w) workers start chain
  chained both rule None start chain p = certified both start chain p
  chained both rule (Some k) start chain p = bounded both rule k start chain p

  -- `plan`
  least_plan : {v w : Version} → Both v w → (text : List ℕ) → TellsLeastPlan (in_version v) text → TellsLeastPlan (in_version w) text
  least_plan both text p = record {
    starts = p.starts;
    chain = p.chain;
    certified = certified both (start_of p.starts) p.chain p.certified;
    lines = p.lines ∙ ap text_of (lines_same both tree assigned work None (start_of p.starts) no_worker p.chain);
  }

  worker_plan : {v w : Version} → Both v w → (rule : Rule) (k : ℕ) (text : List ℕ) → TellsWorkerPlan rule k (in_version v) text
      → TellsWorkerPlan rule k (in_version w) text
  worker_plan both rule k text p = record {
    starts = p.starts;
    workers = p.workers;
    chain = p.chain;
    bounded = bounded both rule k (start_of p.starts) p.chain p.bounded;
    seated = p.seated;
    lines = p.lines ∙ ap text_of (lines_same both tree assigned work (Some k) (start_of p.starts) (seat_of p.workers) p.chain);
  }

  plan : {v w : Version} → Both v w → (rule : Rule) (workers : Option ℕ) (text : List ℕ) → TellsPlan rule workers (in_version v) text
      → TellsPlan rule workers (in_version w) text
  plan both rule None text p = least_plan both text p
  plan both rule (Some k) text p = worker_plan both rule k text p

  -- `sweep`
  listed : {v w : Version} → Both v w → (rule : Rule) (shortest : ℕ) (figures : Figures) → IsListed rule (in_version v) shortest figures
      → IsListed rule (in_version w) shortest figures
  listed down rule shortest figures p = record { k = p.k; starts = p.starts; list = p.list; figures_are = p.figures_are; least = p.least }
  listed up rule shortest figures p = record { k = p.k; starts = p.starts; list = p.list; figures_are = p.figures_are; least = p.least }

  pub are_listed : {v w : Version} → Both v w → (rule : Rule) (shortest : ℕ) (workers : List ℕ) (figures : List Figures)
      → AreListed rule (in_version v) shortest workers figures → AreListed rule (in_version w) shortest workers figures
  are_listed both rule shortest workers figures p =
      record { in_turn = p.in_turn; each = λ i d inside. listed both rule shortest _ (p.each i d inside) }

  sweep : {v w : Version} → Both v w → (rule : Rule) (workers text : List ℕ) → TellsSweep rule workers (in_version v) text
      → TellsSweep rule workers (in_version w) text
  sweep down rule workers text p = record {
    starts = p.starts;
    listed = p.listed;
    unlimited = p.unlimited;
    least = p.least;
    are_listed = are_listed down rule _ workers p.listed p.are_listed;
    are_unlimited = p.are_unlimited;
    bound = p.bound;
    lines = p.lines;
  }
  sweep up rule workers text p = record {
    starts = p.starts;
    listed = p.listed;
    unlimited = p.unlimited;
    least = p.least;
    are_listed = are_listed up rule _ workers p.listed p.are_listed;
    are_unlimited = p.are_unlimited;
    bound = p.bound;
    lines = p.lines;
  }

  -- `waits`
  plan_for : {v w : Version} → Both v w → (rule : Rule) (workers : Option ℕ) (start : ℕ → ℕ) → IsPlanFor rule (in_version v) workers start
      → IsPlanFor rule (in_version w) workers start
  plan_for down rule None start p = p
  plan_for down rule (Some k) start p = p
  plan_for up rule None start p = p
  plan_for up rule (Some k) start p = p

  waits : {v w : Version} → Both v w → (rule : Rule) (workers : Option ℕ) (grouping : Grouping) (layout : Hierarchy) (text : List ℕ)
      → TellsWaits rule workers grouping layout (in_version v) text → TellsWaits rule workers grouping layout (in_version w) text
  waits down rule workers grouping layout text p = record {
    starts = p.starts;
    cells = p.cells;
    waits = p.waits;
    rows = p.rows;
    planned = plan_for down rule workers (start_of p.starts) p.planned;
    are_cells = p.are_cells;
    are_waits = p.are_waits;
    are_rows = p.are_rows;
    adds_up = p.adds_up;
    lines = p.lines;
  }
  waits up rule workers grouping layout text p = record {
    starts = p.starts;
    cells = p.cells;
    waits = p.waits;
    rows = p.rows;
    planned = plan_for up rule workers (start_of p.starts) p.planned;
    are_cells = p.are_cells;
    are_waits = p.are_waits;
    are_rows = p.are_rows;
    adds_up = p.adds_up;
    lines = p.lines;
  }

  worst : {v w : Version} → Both v w → (rule : Rule) (workers : Option ℕ) (most : ℕ) (layout : Hierarchy) (text : List ℕ)
      → TellsWorst rule workers most layout (in_version v) text → TellsWorst rule workers most layout (in_version w) text
  worst down rule workers most layout text p = record {
    starts = p.starts;
    cells = p.cells;
    waited = p.waited;
    by = p.by;
    worst = p.worst;
    planned = plan_for down rule workers (start_of p.starts) p.planned;
    are_cells = p.are_cells;
    are_waited = p.are_waited;
    are_by = p.are_by;
    are_worst = p.are_worst;
    lines = p.lines;
  }
  worst up rule workers most layout text p = record {
    starts = p.starts;
    cells = p.cells;
    waited = p.waited;
    by = p.by;
    worst = p.worst;
    planned = plan_for up rule workers (start_of p.starts) p.planned;
    are_cells = p.are_cells;
    are_waited = p.are_waited;
    are_by = p.are_by;
    are_worst = p.are_worst;
    lines = p.lines;
  }

  -- `where`
  spent : (v w : Version) (locks : Bool) (label : Option Label) (columns : Columns) (start : ℕ → ℕ) (chain text : List ℕ)
      → TellsSpent locks label columns (in_version v) start chain text → TellsSpent locks label columns (in_version w) start chain text
  spent v w locks None columns start chain text p = record {
    below = p.below;
    parts = p.parts;
    are_below = p.are_below;
    are_parts = p.are_parts;
    costs_add_up = p.costs_add_up;
    chain_adds_up = p.chain_adds_up;
    waits_add_up = p.waits_add_up;
    lines = p.lines;
  }
  spent v w locks (Some label) columns start chain text p = record {
    parts = p.parts;
    are_parts = p.are_parts;
    names_add_up = p.names_add_up;
    waits_add_up = p.waits_add_up;
    lines = p.lines;
  }

  spends : {v w : Version} → Both v w → (locks : Bool) (rule : Rule) (workers : Option ℕ) (label : Option Label) (columns : Columns) (text : List ℕ)
      → TellsWhere locks rule workers label columns (in_version v) text → TellsWhere locks rule workers label columns (in_version w) text
  spends {v} {w} both locks rule workers label columns text p = record {
    starts = p.starts;
    chain = p.chain;
    chained = chained both rule workers (start_of p.starts) p.chain p.chained;
    spent = spent v w locks label columns (start_of p.starts) p.chain text p.spent;
  }

  -- `needs` and `why` do not ask for the version
  needs : (v w : Version) (text : List ℕ) → TellsNeeds (in_version v) text → TellsNeeds (in_version w) text
  needs v w text p = record { needs = p.needs; are_needs = p.are_needs; are_chosen = p.are_chosen; lines = p.lines }

  why : (v w : Version) (grouping : Grouping) (layout : Hierarchy) (text : List ℕ) → TellsWhy grouping layout (in_version v) text
      → TellsWhy grouping layout (in_version w) text
  why v w grouping layout text p = record {
    lifts = p.lifts;
    rows = p.rows;
    are_lifts = p.are_lifts;
    are_rows = p.are_rows;
    messages_add_up = p.messages_add_up;
    costs_add_up = p.costs_add_up;
    lines = p.lines;
  }

  -- all that is asked, but what limits
  pub tells : {v w : Version} → Both v w → (asked : Told) → asks_limits asked ≡ false → (layout : Hierarchy) (text : List ℕ)
      → Tells asked layout (in_version v) text → Tells asked layout (in_version w) text
  tells both told.Assign other layout text p = p
  tells both (told.Plan workers rule) other layout text p = plan both rule workers text p
  tells {v} {w} both told.Needs other layout text p = needs v w text p
  tells both (told.Sweep given rule) other layout text p = sweep both rule (numbers_or given sweep_workers) text p
  tells both (told.Limits given rule) other layout text p = absurd (cc other)
  tells both (told.Where workers rule label columns) other layout text p = spends both (has_locks layout.spaces) rule workers label columns text p
  tells both (told.Waits workers rule grouping) other layout text p = waits both rule workers grouping layout text p
  tells both (told.Worst workers rule most) other layout text p = worst both rule workers most layout text p
  tells {v} {w} both (told.Why grouping) other layout text p = why v w grouping layout text p
  tells both (told.Locks workers rule kind steps) other layout text p =
      locks (record { workers = workers; rule = rule; kind = kind; steps = steps }) layout sizes messages both text p

  -- `limits`
  pub limits_of : {v w : Version} → Both v w → (spaces : List Space) (start : ℕ → ℕ) (limits : Limits) → AreLimits spaces (in_version v) start limits → AreLimits spaces (in_version w) start limits
  limits_of both spaces start limits p = record {
    total = p.total;
    client = p.client;
    after = p.after;
    writes = p.writes;
    cell = p.cell;
    path = p.path;
    locks = p.locks;
    order = p.order;
  }

  -- `rank`
  pub ranked : {v w : Version} → Both v w → (rule : Rule) (kind : Kind) (k : ℕ) (found : Ranked) → IsRankedUnder rule kind k (in_version v) found
      → IsRankedUnder rule kind k (in_version w) found
  ranked down rule kind k found p = record {
    starts = p.starts;
    kind_is = p.kind_is;
    affinities = p.affinities;
    least = p.least;
    shortest = p.shortest;
    listed = listed down rule found.length found.listed p.listed;
    workers = p.workers;
  }
  ranked up rule kind k found p = record {
    starts = p.starts;
    kind_is = p.kind_is;
    affinities = p.affinities;
    least = p.least;
    shortest = p.shortest;
    listed = listed up rule found.length found.listed p.listed;
    workers = p.workers;
  }

  -- `rate`
  pub rated : {v w : Version} → Both v w → (limit : Option ℕ) (start : ℕ → ℕ) (figures : Figures) → AreRated (in_version v) limit start figures
      → AreRated (in_version w) limit start figures
  rated down limit start figures p = record { starts = p.starts; least = p.least; are_figures = p.are_figures; bound = p.bound }
  rated up limit start figures p = record { starts = p.starts; least = p.least; are_figures = p.are_figures; bound = p.bound }

  -- `compare`
  pub unlimited_totals : {v w : Version} → Both v w → (totals : Totals) → AreCertifiedTotals (in_version v) totals → AreCertifiedTotals (in_version w) totals
  unlimited_totals both totals p =
      record { starts = p.starts; chain = p.chain; certified = certified both (start_of p.starts) p.chain p.certified; told = p.told }

  pub list_totals : {v w : Version} → Both v w → (k : ℕ) (totals : Totals) → AreListTotals (in_version v) k totals → AreListTotals (in_version w) k totals
  list_totals both k totals p =
      record { starts = p.starts; chain = p.chain; bounded = bounded both Arrival k (start_of p.starts) p.chain p.bounded; told = p.told }

module _ (sizes : List ℕ) (messages : List Message) where
  measured : {v w : Version} → Both v w → (layout : Hierarchy) (assigned : List Held) (k : ℕ) (found : Measured)
      → IsMeasured layout assigned (trace_in sizes messages v) k found → IsMeasured layout assigned (trace_in sizes messages w) k found
  measured both layout assigned k found p = record {
    kind = p.kind;
    least = unlimited_totals layout.tree assigned sizes messages both found.unlimited p.least;
    by_arrival = list_totals layout.tree assigned sizes messages both k found.listed p.by_arrival;
  }

  pub compared : {v w : Version} → Both v w → (classical hierarchical : Hierarchy) (k : ℕ) (text : List ℕ)
      → IsCompared classical hierarchical (trace_in sizes messages v) k text → IsCompared classical hierarchical (trace_in sizes messages w) k text
  compared down classical hierarchical k text p = record {
    coarse = p.coarse;
    fine = p.fine;
    of_classical = p.of_classical;
    of_hierarchical = p.of_hierarchical;
    refined = p.refined;
    coarse_assignment = p.coarse_assignment;
    fine_assignment = p.fine_assignment;
    classical_measured = measured down classical p.coarse k p.of_classical p.classical_measured;
    hierarchical_measured = measured down hierarchical p.fine k p.of_hierarchical p.hierarchical_measured;
    told = p.told;
    no_longer = p.no_longer;
    lines = p.lines;
  }
  compared up classical hierarchical k text p = record {
    coarse = p.coarse;
    fine = p.fine;
    of_classical = p.of_classical;
    of_hierarchical = p.of_hierarchical;
    refined = p.refined;
    coarse_assignment = p.coarse_assignment;
    fine_assignment = p.fine_assignment;
    classical_measured = measured up classical p.coarse k p.of_classical p.classical_measured;
    hierarchical_measured = measured up hierarchical p.fine k p.of_hierarchical p.hierarchical_measured;
    told = p.told;
    no_longer = p.no_longer;
    lines = p.lines;
  }

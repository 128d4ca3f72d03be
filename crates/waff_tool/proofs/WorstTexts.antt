-- What was told of the worst messages of a plan is the text of the files, and there is one.
use Rattle.std.proofs.Common.{◌≡◌, ℕ, List, Option, sym, ◌∙◌, ap, subst}
use Rattle.waff_model.specs.Layout.{Hierarchy, Space}
use Rattle.waff_model.specs.declared.cell.Cell.{Cell}
use Rattle.waff_model.specs.Unique.{AtMostOne}
use Rattle.waff_model.specs.declared.message.Version.{Version}
use Rattle.waff_assign.specs.Instance.{Instance}
use Rattle.waff_assign.specs.Lowest.{ListsLocks}
use Rattle.waff_plan.specs.Instances.{work_of_instance}
use Rattle.waff_plan.specs.Serving.{started_before}
use Rattle.waff_plan.specs.Timetable.{timings_of}
use Rattle.waff_plan.specs.Timing.{start_of, work_of}
use Rattle.waff_plan.specs.Waited.{AreWaitedFor}
use Rattle.waff_plan.specs.Work.{length_of}
use Rattle.waff_plan.specs.declared.timing.Timing.{Timing}
use Rattle.waff_list.specs.declared.rule.Rule.{Rule}
use Rattle.waff_plan_text.specs.Lines.{text_of}
use Rattle.waff_figures.specs.Figures.{latency_of}
use Rattle.waff_figures.specs.WaitLocks.{AreBy}
use Rattle.waff_figures.specs.Worst.{AreWorst}
use Rattle.waff_figures.specs.WorstText.{worst_lines}
use Rattle.waff_figures.specs.declared.figures.Figures.{Figures}
use Rattle.waff_figures.proofs.WorstLaws.{first_is_greatest, worst_lines_are_one}
use Rattle.waff_tool.specs.WaitsText.{IsPlanFor}
use Rattle.waff_tool.specs.WorstText.{TellsWorst, WorstIsSwept}
use Rattle.waff_tool.proofs.FigureUniqueness.{told_swept}
use Rattle.waff_assign.proofs.Uniqueness.{same_locks}
use Rattle.waff_tool.proofs.PlanUniqueness.{IsSound, count_in}
use Rattle.waff_tool.proofs.TextUniqueness.{is_sound}
use Rattle.waff_tool.proofs.WaitsTexts.{line_of_plan, same_plan}

-- what is told of a plan of this version with these timings and starts
abbrev pub IsTold : ℕ → List Space → List Cell → Instance → Version → List Timing → List ℕ → List ℕ → Type 0
IsTold most spaces cells instance version timings starts text =
    (waited by : List (Option ℕ)) × (worst : List ℕ)
    × AreWaitedFor (started_before version instance.tree instance.assigned (start_of starts)) (work_of timings) (start_of starts) (work_of timings).count waited
    × AreBy instance.tree instance.assigned waited by
    × AreWorst most (work_of timings).count (latency_of (work_of timings) (start_of starts)) worst
    × (text ≡ text_of (worst_lines spaces cells instance.tree instance.assigned instance.trace.messages (work_of timings) (start_of starts) waited by worst))

pub told_text : (rule : Rule) (workers : Option ℕ) (most : ℕ) (layout : Hierarchy) (cells : List Cell) (instance : Instance) (version : Version) (timings : List Timing) (starts text : List ℕ)
    → ListsLocks layout instance.trace.messages cells → version ≡ instance.trace.version → timings ≡ timings_of instance.trace.messages → IsPlanFor rule instance workers (start_of starts)
    → IsTold most layout.spaces cells instance version timings starts text → TellsWorst rule workers most layout instance text
told_text rule workers most layout cells instance version timings starts text listed same_version same_timings planned told =
    let of = subst (λ v. IsTold most layout.spaces cells instance v (timings_of instance.trace.messages) starts text) same_version
    (subst (λ ts. IsTold most layout.spaces cells instance version ts starts text) same_timings told) in
    record {
      starts = starts;
      cells = cells;
      waited = of.0;
      by = of.1;
      worst = of.2;
      planned = planned;
      are_cells = listed;
      are_waited = of.3;
      are_by = of.4;
      are_worst = of.5;
      lines = of.6;
    }

pub worst_are_one : (rule : Rule) (workers : Option ℕ) (most : ℕ) (layout : Hierarchy) (instance : Instance) → IsSound instance
    → AtMostOne (TellsWorst rule workers most layout instance)
worst_are_one rule workers most layout instance sound text other p q =
    let cells = same_locks layout instance.trace.messages p.cells q.cells p.are_cells q.are_cells in
    let plans = same_plan rule instance sound workers (start_of p.starts) (start_of q.starts) p.planned q.planned in
    let lines = worst_lines_are_one instance.trace.version instance.tree instance.assigned instance.trace.messages (work_of_instance instance)
    (count_in instance sound) sound.earlier (start_of p.starts) (start_of q.starts) plans layout.spaces q.cells most p.waited q.waited p.by q.by p.worst q.worst
    p.are_waited q.are_waited p.are_by q.are_by p.are_worst q.are_worst in
    p.lines
    ∙ ap (λ cs. text_of (worst_lines layout.spaces cs instance.tree instance.assigned instance.trace.messages (work_of_instance instance) (start_of p.starts) p.waited p.by p.worst)) cells
    ∙ ap text_of lines ∙ sym q.lines

pub worst_is_swept : (rule : Rule) (hierarchy_file trace_file : List ℕ) (limit : Option ℕ) (most : ℕ) → WorstIsSwept rule hierarchy_file trace_file limit most
worst_is_swept rule hierarchy_file trace_file limit most workers text sweep rest first line p q has for worst =
    let instance = p.instance in
    let told = p.told in
    let swept = told_swept rule hierarchy_file trace_file workers sweep instance p.accepts q in
    let work = work_of_instance instance in
    let start = start_of told.starts in
    let of = line_of_plan rule instance (is_sound hierarchy_file trace_file instance p.accepts) (length_of work (start_of q.told.starts)) limit start told.planned line workers q.told.starts q.told.listed q.told.unlimited
    swept.0 swept.1 swept.2 has for in
    first_is_greatest work start most first rest (subst (AreWorst most work.count (latency_of work start)) worst told.are_worst)
    ∙ sym (ap (λ (f : Figures). f.latency) of.2.are)

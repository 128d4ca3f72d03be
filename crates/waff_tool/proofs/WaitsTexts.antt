-- What was told of the waits of a plan is the text of the files, and there is one.
use Rattle.std.proofs.Common.{◌≡◌, ℕ, zero, suc, ◌⊎◌, inl, inr, List, [], ◌∷◌, ◌++◌, length, Option, Some, None, Contains, arith, sym, ◌∙◌, ap, subst}
use Rattle.std.proofs.lemmas.List.Elements.{Contains-append_cases}
use Rattle.waff_model.specs.Unique.{AtMostOne}
use Rattle.waff_model.specs.Layout.{Hierarchy, Space}
use Rattle.waff_model.specs.declared.cell.Cell.{Cell}
use Rattle.waff_assign.specs.Instance.{Instance}
use Rattle.waff_assign.specs.Lowest.{ListsLocks}
use Rattle.waff_plan.specs.Instances.{served_first, started_first, work_of_instance}
use Rattle.waff_plan.specs.Obeys.{IsLeast, Obeys}
use Rattle.waff_plan.specs.Timetable.{AreTimings, timings_of}
use Rattle.waff_plan.specs.Timing.{start_of, work_of}
use Rattle.waff_plan.specs.Unique.{AreSame}
use Rattle.waff_plan.specs.Work.{Work, length_of}
use Rattle.waff_plan.specs.declared.timing.Timing.{Timing}
use Rattle.waff_plan.proofs.ServingLemmas.{served_obeys_started}
use Rattle.waff_list.specs.declared.rule.Rule.{Rule}
use Rattle.waff_list.proofs.TraceWork.{count_is}
use Rattle.waff_plan_text.specs.Lines.{text_of}
use Rattle.waff_figures.specs.ByName.{message_names}
use Rattle.waff_figures.specs.Figures.{AreFigures, waits_of}
use Rattle.waff_figures.specs.Least.{least_in}
use Rattle.waff_figures.specs.Sweep.{AreListed, IsListed}
use Rattle.waff_figures.specs.Waits.{AreWaits}
use Rattle.waff_figures.specs.WaitLaws.{TicksAddUp}
use Rattle.waff_figures.specs.WaitRows.{AreRows, same_kind}
use Rattle.waff_figures.specs.WaitText.{are_alike, waits_lines}
use Rattle.waff_figures.specs.declared.figures.Figures.{Figures}
use Rattle.waff_figures.specs.declared.grouping.Grouping.{Grouping}
use Rattle.waff_figures.specs.declared.wait_rows.Row.{Row}
use Rattle.waff_figures.specs.declared.waits.Wait.{Wait}
use Rattle.waff_figures.proofs.FigureLaws.{figures_moved}
use Rattle.waff_figures.proofs.WaitKinds.{kinds_are}
use Rattle.waff_figures.proofs.WaitUnique.{alike_laws, rows_are_one}
use Rattle.waff_tool.specs.WaitsText.{IsPlanFor, TellsWaits, WaitsAreSwept}
use Rattle.waff_assign.proofs.Uniqueness.{same_locks}
use Rattle.waff_tool.proofs.FigureUniqueness.{told_swept}
use Rattle.waff_tool.proofs.CertificateLemmas.{busy_served}
use Rattle.waff_tool.proofs.PlanUniqueness.{IsSound, count_in, least_in_one, rule_in_one}
use Rattle.waff_tool.proofs.TextUniqueness.{is_sound}

-- what is told of a plan with these timings and starts, by these cells of locks
abbrev pub IsTold : Grouping → List Space → List Cell → Instance → List Timing → List ℕ → List ℕ → Type 0
IsTold grouping spaces cells instance timings starts text =
    (waits : List Wait) × (rows : List Row)
    × AreWaits instance.tree instance.assigned (started_first instance (start_of starts)) (work_of timings) (start_of starts) waits
    × AreRows (same_kind (are_alike grouping instance.assigned (message_names instance.trace.messages)) cells) waits rows
    × (text ≡ text_of (waits_lines grouping spaces cells instance.tree instance.assigned (message_names instance.trace.messages) rows))

-- such a plan obeys the order in which it is to serve messages, and that of its chains
pub planned_obeys : (rule : Rule) (instance : Instance) (workers : Option ℕ) (start : ℕ → ℕ) → IsPlanFor rule instance workers start
    → Obeys (served_first instance start) (work_of_instance instance) start
planned_obeys rule instance None start planned = planned.obeys
planned_obeys rule instance (Some k) start planned =
    (busy_served instance.trace.version rule instance.tree instance.assigned (work_of_instance instance) k start planned).within.obeys

module _ (instance : Instance) (are : AreTimings instance.trace.version (timings_of instance.trace.messages))
    (same : length instance.assigned ≡ length instance.trace.messages) where
  started_obeys : (start : ℕ → ℕ) → Obeys (served_first instance start) (work_of_instance instance) start
      → Obeys (started_first instance start) (work_of_instance instance) start
  started_obeys start obeys =
      served_obeys_started instance.tree instance.assigned (timings_of instance.trace.messages) start (count_is instance.trace.messages ∙ sym same)
      instance.trace.version are obeys

pub told_text : (rule : Rule) (workers : Option ℕ) (grouping : Grouping) (layout : Hierarchy) (cells : List Cell) (instance : Instance) (starts text : List ℕ)
    → ListsLocks layout instance.trace.messages cells → AreTimings instance.trace.version (timings_of instance.trace.messages) → length instance.assigned ≡ length instance.trace.messages
    → TicksAddUp instance.tree instance.assigned (started_first instance (start_of starts)) (work_of_instance instance) (start_of starts)
    → IsPlanFor rule instance workers (start_of starts)
    → IsTold grouping layout.spaces cells instance (timings_of instance.trace.messages) starts text → TellsWaits rule workers grouping layout instance text
told_text rule workers grouping layout cells instance starts text listed are same adds planned told = record {
  starts = starts;
  cells = cells;
  waits = told.0;
  rows = told.1;
  planned = planned;
  are_cells = listed;
  are_waits = told.2;
  are_rows = told.3;
  adds_up = adds (same_kind (are_alike grouping instance.assigned (message_names instance.trace.messages)) cells) told.0 told.1
      (kinds_are (are_alike grouping instance.assigned (message_names instance.trace.messages)) cells
      (alike_laws grouping instance.assigned (message_names instance.trace.messages))) told.2
      (started_obeys instance are same (start_of starts) (planned_obeys rule instance workers (start_of starts) planned)) told.3;
  lines = told.4;
}

-- the plan is one
pub same_plan : (rule : Rule) (instance : Instance) → IsSound instance → (workers : Option ℕ) (start other : ℕ → ℕ)
    → IsPlanFor rule instance workers start → IsPlanFor rule instance workers other → AreSame (work_of_instance instance) start other
same_plan rule instance sound None start other p q = least_in_one instance sound start other p q
same_plan rule instance sound (Some k) start other p q = rule_in_one instance sound rule k start other p q

pub waits_are_one : (rule : Rule) (workers : Option ℕ) (grouping : Grouping) (layout : Hierarchy) (instance : Instance) → IsSound instance
    → AtMostOne (TellsWaits rule workers grouping layout instance)
waits_are_one rule workers grouping layout instance sound text other p q =
    let work = work_of_instance instance in
    let names = message_names instance.trace.messages in
    let alike = are_alike grouping instance.assigned names in
    let cells = same_locks layout instance.trace.messages p.cells q.cells p.are_cells q.are_cells in
    let plans = same_plan rule instance sound workers (start_of p.starts) (start_of q.starts) p.planned q.planned in
    let rows = rows_are_one instance.trace.version instance.tree instance.assigned work (same_kind alike q.cells) (start_of p.starts)
    (start_of q.starts) p.waits q.waits p.rows q.rows (count_in instance sound) sound.earlier plans p.are_waits q.are_waits
    (subst (λ cs. AreRows (same_kind alike cs) p.waits p.rows) cells p.are_rows) q.are_rows in
    p.lines ∙ ap (λ cs. text_of (waits_lines grouping layout.spaces cs instance.tree instance.assigned names p.rows)) cells
    ∙ ap (λ rs. text_of (waits_lines grouping layout.spaces q.cells instance.tree instance.assigned names rs)) rows ∙ sym q.lines

-- the lines of a sweep for as many workers are of the same plan
module _ (rule : Rule) (instance : Instance) (sound : IsSound instance) (shortest : ℕ) (limit : Option ℕ) (start : ℕ → ℕ)
    (planned : IsPlanFor rule instance limit start) (line : Figures) where
  abbrev work : Work
  work = work_of_instance instance

  -- the line has the figures of the plan with these starts
  abbrev pub IsOfPlan : Type 0
  IsOfPlan = (workers : Option ℕ) × (bound : ℕ) × AreFigures workers work bound start line

  of_listed : IsListed rule instance shortest line → line.workers ≡ limit → IsOfPlan
  of_listed listed for =
      let number : limit ≡ Some listed.k = sym for ∙ ap (λ (f : Figures). f.workers) listed.figures_are.are in
      let plan = subst (λ w. IsPlanFor rule instance w start) number planned in
      let same = rule_in_one instance sound rule listed.k start (start_of listed.starts) plan listed.list in
      let bound = least_in (Some listed.k) instance shortest in
      (Some listed.k, bound, figures_moved work sound.earlier start (start_of listed.starts) same (Some listed.k) bound line listed.figures_are)

  of_unlimited : (starts : List ℕ) → IsLeast (served_first instance (start_of starts)) work (start_of starts)
      → AreFigures None work (least_in None instance shortest) (start_of starts) line → line.workers ≡ limit → IsOfPlan
  of_unlimited starts least figures for =
      let number : limit ≡ None = sym for ∙ ap (λ (f : Figures). f.workers) figures.are in
      let plan = subst (λ w. IsPlanFor rule instance w start) number planned in
      let same = least_in_one instance sound start (start_of starts) plan least in
      let bound = least_in None instance shortest in
      (None, bound, figures_moved work sound.earlier start (start_of starts) same None bound line figures)

  pub line_of_plan : (workers starts : List ℕ) (listed : List Figures) (unlimited : Figures) → IsLeast (served_first instance (start_of starts)) work (start_of starts)
      → AreListed rule instance shortest workers listed → AreFigures None work (least_in None instance shortest) (start_of starts) unlimited
      → Contains (listed ++ unlimited ∷ []) line → line.workers ≡ limit → IsOfPlan
  line_of_plan workers starts listed unlimited least each last has for = by (Contains-append_cases listed (unlimited ∷ []) line has)
    where
      by : Contains listed line ⊎ Contains (unlimited ∷ []) line → IsOfPlan
      by (inl (i, inside, is)) = of_listed (subst (λ f. IsListed rule instance shortest f) is (each.each i line inside)) for
      by (inr (zero, inside, is)) = of_unlimited starts least (subst (λ f. AreFigures None work (least_in None instance shortest) (start_of starts) f) is last) for
      by (inr (suc i, inside, is)) = absurd (omega (arith, inside))

  pub waits_in_line : (workers starts : List ℕ) (listed : List Figures) (unlimited : Figures) → IsLeast (served_first instance (start_of starts)) work (start_of starts)
      → AreListed rule instance shortest workers listed → AreFigures None work (least_in None instance shortest) (start_of starts) unlimited
      → Contains (listed ++ unlimited ∷ []) line → line.workers ≡ limit → waits_of work start ≡ line.waits
  waits_in_line workers starts listed unlimited least each last has for =
      sym (ap (λ (f : Figures). f.waits) (line_of_plan workers starts listed unlimited least each last has for).2.are)

pub waits_are_swept : (rule : Rule) (hierarchy_file trace_file : List ℕ) (limit : Option ℕ) (grouping : Grouping) → WaitsAreSwept rule hierarchy_file trace_file limit grouping
waits_are_swept rule hierarchy_file trace_file limit grouping workers text sweep line p q has for =
    let instance = p.instance in
    let told = p.told in
    let swept = told_swept rule hierarchy_file trace_file workers sweep instance p.accepts q in
    let work = work_of_instance instance in
    let of = line_of_plan rule instance (is_sound hierarchy_file trace_file instance p.accepts) (length_of work (start_of q.told.starts)) limit (start_of told.starts) told.planned line workers q.told.starts q.told.listed q.told.unlimited
    swept.0 swept.1 swept.2 has for in
    told.adds_up ∙ sym (ap (λ (f : Figures). f.waits) of.2.are)

-- Of the same bytes there is one rating, and what `plan` prints is rated as a sweep tells of it.
use Rattle.std.proofs.Common.{◌≡◌, ℕ, ◌-◌, ◌<◌, ◌≤◌, List, map, length, get_or, Option, Some, None, arith, refl, sym, ◌∙◌, ap, subst}
use Rattle.std.proofs.lemmas.List.{get_or-map}
use Rattle.std.proofs.lemmas.List.FromFn.{get_or-map-range_with_len, length-map-range_with_len}
use Rattle.std.proofs.lemmas.Option.{same_Some}
use Rattle.waff_model.specs.Tree.{Node}
use Rattle.waff_model.specs.declared.message.Version.{Version}
use Rattle.waff_assign.specs.Instance.{Instance}
use Rattle.waff_plan.specs.Instances.{served_first, work_of_instance}
use Rattle.waff_plan.specs.Obeys.{IsLeast}
use Rattle.waff_plan.specs.Timing.{start_of}
use Rattle.waff_plan.specs.Unique.{AreSame}
use Rattle.waff_plan.specs.Work.{Work, length_of, numbers}
use Rattle.waff_plan.proofs.Uniqueness.{same_length}
use Rattle.waff_list.specs.declared.rule.Rule.{Rule}
use Rattle.waff_plan_text.specs.Given.{Given, no_row}
use Rattle.waff_plan_text.specs.Laws.{plan_told, row_told}
use Rattle.waff_plan_text.specs.Lines.{text_of}
use Rattle.waff_plan_text.specs.Spelling.{no_worker, seat_of}
use Rattle.waff_plan_text.specs.declared.row.Row.{Row}
use Rattle.waff_check.specs.Verdicts.{starts_of}
use Rattle.waff_check.specs.declared.verdict.Verdict.{Verdict}
use Rattle.waff_figures.specs.Figures.{AreFigures}
use Rattle.waff_figures.specs.Least.{least_in}
use Rattle.waff_figures.specs.Sweep.{IsListed, IsPlanOf}
use Rattle.waff_figures.specs.declared.figures.Figures.{Figures}
use Rattle.waff_figures.proofs.FigureLaws.{figures_are_one}
use Rattle.waff_tool.specs.CheckText.{AcceptsPlan}
use Rattle.waff_tool.specs.Rate.{AreRated, IsRateText, IsRated, OwnPlanIsSwept, OwnWorkerPlanIsSwept, RateTextIsOne, RatedIsChecked, rated_lines}
use Rattle.waff_tool.proofs.CheckUniqueness.{check_text_is_one, same_given}
use Rattle.waff_tool.proofs.FigureUniqueness.{count_of, told_swept, workers_at}
use Rattle.waff_tool.proofs.OwnPlanLaws.{own_plan_read, own_worker_plan_read, plan_in}
use Rattle.waff_tool.proofs.PlanUniqueness.{IsSound, least_in_one, rule_in_one}
use Rattle.waff_tool.proofs.TextUniqueness.{is_sound}
use Rattle.waff_assign.specs.Held.{Held}

-- figures of the same starts, against least plans, which have one length
rated_same : (instance : Instance) → IsSound instance → (limit : Option ℕ) (start other : ℕ → ℕ) (one another : Figures) (starts : List ℕ)
    → AreSame (work_of_instance instance) start other → AreRated instance limit start one
    → IsLeast (served_first instance (start_of starts)) (work_of_instance instance) (start_of starts)
    → AreFigures limit (work_of_instance instance) (least_in limit instance (length_of (work_of_instance instance) (start_of starts))) other another → one ≡ another
rated_same instance sound limit start other one another starts same p least q =
    let work = work_of_instance instance in
    let leasts = least_in_one instance sound (start_of p.starts) (start_of starts) p.least least in
    let lengths = same_length work (start_of p.starts) (start_of starts) leasts in
    figures_are_one work limit (least_in limit instance (length_of work (start_of starts))) start other one another sound.earlier same
    (subst (λ n. AreFigures limit work (least_in limit instance n) start one) lengths p.are_figures) q

pub rate_text_is_one : (hierarchy_file trace_file plan_file : List ℕ) → RateTextIsOne hierarchy_file trace_file plan_file
rate_text_is_one hierarchy_file trace_file plan_file one other text another p q =
    let a = p.checked in
    let b = q.checked in
    let verdicts = check_text_is_one hierarchy_file trace_file plan_file one other a b in
    let rated = same_given (λ i g. IsRated i g q.figures) hierarchy_file trace_file plan_file a.instance b.instance a.given b.given a.accepts b.accepts q.rated in
    let start = start_of (starts_of a.given) in
    let figures = rated_same a.instance (is_sound hierarchy_file trace_file a.instance a.accepts.accepts) a.given.summary.workers start start p.figures q.figures rated.starts
    (λ m number. refl) p.rated rated.least rated.are_figures in
    p.lines ∙ ap (λ v. text_of (rated_lines v p.figures)) verdicts ∙ ap (λ f. text_of (rated_lines other f)) figures ∙ sym q.lines

pub rated_is_checked : (hierarchy_file trace_file plan_file : List ℕ) → RatedIsChecked hierarchy_file trace_file plan_file
rated_is_checked hierarchy_file trace_file plan_file one other text rate check =
    check_text_is_one hierarchy_file trace_file plan_file one other rate.checked check

-- the starts in the rows of a plan that is told are those of the plan
module _ (version : Version) (tree : List Node) (assigned : List Held) (work : Work) (workers : Option ℕ) (start : ℕ → ℕ) (worker : ℕ → Option ℕ) (chain : List ℕ) where
  told_starts : AreSame work (start_of (starts_of (plan_told version tree assigned work workers start worker chain))) start
  told_starts m number =
      let row = row_told tree assigned work start worker in
      let rows = map row (numbers work) in
      let from : 1 ≤ m = number.from in
      let to : m ≤ work.count = number.to in
      let count : length rows ≡ work.count = length-map-range_with_len row 1 work.count in
      get_or-map (λ (r : Row). r.start) rows (m - 1) no_row 0 (omega (arith, count))
      ∙ ap (λ (r : Row). r.start) (get_or-map-range_with_len row 1 work.count (m - 1) m no_row (omega arith) (omega arith))

-- what is rated of a text that tells a plan
told_rated : (hierarchy_file trace_file plan_file : List ℕ) (v : Verdict) (text : List ℕ) (instance : Instance) (given : Given)
    → AcceptsPlan hierarchy_file trace_file plan_file instance given → (rate : IsRateText hierarchy_file trace_file plan_file v text)
    → IsRated instance given rate.figures
told_rated hierarchy_file trace_file plan_file v text instance given accepts rate =
    let b = rate.checked in
    same_given (λ i g. IsRated i g rate.figures) hierarchy_file trace_file plan_file instance b.instance given b.given accepts b.accepts rate.rated

pub own_plan_is_swept : (rule : Rule) (hierarchy_file trace_file : List ℕ) → OwnPlanIsSwept rule hierarchy_file trace_file
own_plan_is_swept rule hierarchy_file trace_file plan_file workers text sweep v p rate swept =
    let i = p.instance in
    let told = p.told in
    let sound = is_sound hierarchy_file trace_file i p.accepts in
    let work = work_of_instance i in
    let start = start_of told.starts in
    let plan = plan_in i None start no_worker told.chain in
    let rated = told_rated hierarchy_file trace_file plan_file v text i plan (own_plan_read hierarchy_file trace_file i p.accepts plan_file told) rate in
    let moved = told_swept rule hierarchy_file trace_file workers sweep i p.accepts swept in
    let leasts = least_in_one i sound start (start_of swept.told.starts) told.certified.least moved.0 in
    let rows = told_starts i.trace.version i.tree i.assigned work None start no_worker told.chain in
    rated_same i sound None (start_of (starts_of plan)) (start_of swept.told.starts) rate.figures swept.told.unlimited swept.told.starts
    (λ m number. rows m number ∙ leasts m number) rated moved.0 moved.2

pub own_worker_plan_is_swept : (rule : Rule) (hierarchy_file trace_file : List ℕ) → OwnWorkerPlanIsSwept rule hierarchy_file trace_file
own_worker_plan_is_swept rule hierarchy_file trace_file k plan_file workers text sweep v fits has p rate swept =
    let i = p.instance in
    let told = p.told in
    let sound = is_sound hierarchy_file trace_file i p.accepts in
    let work = work_of_instance i in
    let start = start_of told.starts in
    let seats = seat_of told.workers in
    let plan = plan_in i (Some k) start seats told.chain in
    let rated = told_rated hierarchy_file trace_file plan_file v text i plan
    (own_worker_plan_read hierarchy_file trace_file i p.accepts rule k plan_file fits told) rate in
    let moved = told_swept rule hierarchy_file trace_file workers sweep i p.accepts swept in
    let listed = swept.told.listed in
    let shortest = length_of work (start_of swept.told.starts) in
    let at = has.0 in
    let inside : at < length listed = subst (λ n. at < n) (sym (count_of listed workers moved.1.in_turn)) has.1 in
    let line = get_or listed at rate.figures in
    let one : IsListed rule i shortest line = moved.1.each at rate.figures inside in
    let number : one.k ≡ k = same_Some one.k k
    (sym (ap (λ (f : Figures). f.workers) one.figures_are.are) ∙ workers_at listed workers moved.1.in_turn at rate.figures k inside ∙ ap (λ n. Some n) has.2) in
    let list = subst (λ n. IsPlanOf rule i n (start_of one.starts)) number one.list in
    let figures = subst (λ n. AreFigures (Some n) work (least_in (Some n) i shortest) (start_of one.starts) line) number one.figures_are in
    let plans = rule_in_one i sound rule k start (start_of one.starts) told.bounded.list list in
    let rows = told_starts i.trace.version i.tree i.assigned work (Some k) start seats told.chain in
    let same : rate.figures ≡ line = rated_same i sound (Some k) (start_of (starts_of plan)) (start_of one.starts) rate.figures line swept.told.starts
    (λ m n. rows m n ∙ plans m n) rated moved.0 figures in
    (at, inside, sym same)

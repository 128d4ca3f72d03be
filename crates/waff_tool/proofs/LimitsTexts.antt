-- The text of what limits a workload is one, and what it says of all plans.
use Rattle.std.proofs.Common.{◌≡◌, ℕ, zero, suc, ◌≤◌, ◌⊎◌, inl, inr, true, false, List, [], ◌∷◌, ◌++◌, Option, Some, None, Contains, sym, ◌∙◌, ap, subst, arith}
use Rattle.std.proofs.Math.Path.{fun_ext}
use Rattle.std.proofs.lemmas.List.Elements.{Contains-append_cases}
use Rattle.waff_model.specs.declared.cell.Cell.{Cell}
use Rattle.waff_model.specs.declared.message.Message.{Message}
use Rattle.waff_assign.proofs.Knowing.{unlocked_known}
use Rattle.waff_model.specs.Messages.{Arrivals}
use Rattle.waff_model.specs.Unique.{AtMostOne}
use Rattle.waff_model.specs.Versions.{has_clients}
use Rattle.waff_model.specs.declared.message.Version.{Version}
use Rattle.waff_model.specs.declared.message.Version.TheVariants.{V1, V2, V3, V4}
use Rattle.waff_model.specs.Layout.{Space}
use Rattle.waff_inputs.specs.Known.{newest, trace_of}
use Rattle.waff_read.proofs.LimitLaws.{layout_is_within_limits, trace_is_within_limits}
use Rattle.waff_assign.specs.Instance.{Instance, before_in}
use Rattle.waff_plan.specs.Instances.{work_of_instance}
use Rattle.waff_plan.specs.LowerBound.{lower_bound_of}
use Rattle.waff_plan.specs.Obeys.{Obeys}
use Rattle.waff_plan.specs.Serving.{served_before}
use Rattle.waff_plan.specs.Timing.{start_of}
use Rattle.waff_plan.specs.Work.{length_of}
use Rattle.waff_plan.proofs.Uniqueness.{same_length}
use Rattle.waff_list.specs.declared.rule.Rule.{Rule}
use Rattle.waff_plan_text.specs.Lines.{text_of}
use Rattle.waff_figures.specs.Least.{least_in, least_where}
use Rattle.waff_figures.specs.Sweep.{AreListed, IsListed}
use Rattle.waff_figures.specs.Figures.{AreFigures}
use Rattle.waff_figures.specs.declared.figures.Figures.{Figures}
use Rattle.waff_limits.specs.Data.{IsMostOf}
use Rattle.waff_limits.specs.Locks.{ticks_needed}
use Rattle.waff_limits.specs.declared.data.CellUse.{CellUse}
use Rattle.waff_limits.specs.Laws.{AfterIsNotBelow, IsUnder, KeepsOrderWhere, NoListsAddNothing, PathIsReached, SharesNoMore, greatest_limit}
use Rattle.waff_limits.specs.Limits.{limits_lines, ticks_of}
use Rattle.waff_limits.specs.Writes.{ticks_shared}
use Rattle.waff_limits.proofs.SharedCells.{needed_more, writes_below}
use Rattle.waff_limits.proofs.LimitLaws.{cell_below, is_lower_bound, limits_are_one, most_of_is_one, none_below, not_below, shortest}
use Rattle.waff_inputs.proofs.SameInput.{same_ok}
use Rattle.waff_tool.specs.LimitsText.{AfterIsBetweenInText, DataBoundsTexts, IsLimitsText, LimitsAreSwept, NoneIsBelowText, OrderIsBetween, OrderIsBetweenInText, OrderIsShortestInText, TellsLimits, TreeIsReachedInText}
use Rattle.waff_tool.proofs.CertificateLemmas.{busy_served}
use Rattle.waff_tool.proofs.FigureUniqueness.{listed_is_one, told_swept}
use Rattle.waff_tool.proofs.PlanUniqueness.{IsSound, least_in_one}
use Rattle.waff_tool.proofs.ReadAlike.{read_alike}

-- the text is one
pub limits_text_is_one : (rule : Rule) (workers : List ℕ) (spaces : List Space) (instance : Instance) → IsSound instance → AtMostOne (TellsLimits rule workers spaces instance)
limits_text_is_one rule workers spaces instance sound text other p q =
    let work = work_of_instance instance in
    let same = least_in_one instance sound (start_of p.starts) (start_of q.starts) p.least q.least in
    let lengths = same_length work (start_of p.starts) (start_of q.starts) same in
    let limits = limits_are_one instance spaces (start_of p.starts) (start_of q.starts) p.limits q.limits same p.are_limits q.are_limits in
    let lists = listed_is_one rule instance sound (length_of work (start_of p.starts)) workers p.listed q.listed p.are_listed
    (subst (λ n. AreListed rule instance n workers q.listed) (sym lengths) q.are_listed) in
    p.lines
    ∙ ap (λ l. text_of (limits_lines spaces instance.tree instance.trace workers l p.listed)) limits
    ∙ ap (λ fs. text_of (limits_lines spaces instance.tree instance.trace workers q.limits fs)) lists
    ∙ sym q.lines

-- what a text tells of
module _ (rule : Rule) (hierarchy_file trace_file workers text : List ℕ) (told : IsLimitsText rule hierarchy_file trace_file workers text) where
  abbrev instance : Instance
  instance = told.instance

  under : IsUnder told.accepts.layout told.instance
  under = record {
    is_layout = layout_is_within_limits hierarchy_file told.accepts.layout told.accepts.is_layout;
    tree = told.accepts.tree;
    is_trace = trace_is_within_limits newest told.accepts.layout.spaces trace_file told.instance.trace told.accepts.is_trace;
    fits = told.told.fits;
    assignment = told.accepts.assignment;
  }

  -- the least of plans with clients
  least_is : (limit : Option ℕ) (shortest_length : ℕ) (line : Figures) → has_clients instance.trace.version ≡ true → line.workers ≡ limit
      → line.least ≡ least_in limit instance shortest_length → line.least ≡ greatest_limit line.workers told.told.limits
  least_is limit shortest_length line clients for least =
      let bound : least_where (has_clients instance.trace.version) limit instance shortest_length ≡ lower_bound_of limit instance.tree instance.assigned (work_of_instance instance)
      = ap (λ b. least_where b limit instance shortest_length) clients in
      least ∙ bound
      ∙ sym (is_lower_bound instance told.accepts.layout under limit (start_of told.told.starts) told.told.limits told.told.are_limits)
      ∙ ap (λ w. greatest_limit w told.told.limits) (sym for)

  least_listed : (sweep_rule : Rule) (shortest_length : ℕ) (line : Figures) → has_clients instance.trace.version ≡ true
      → IsListed sweep_rule instance shortest_length line → line.least ≡ greatest_limit line.workers told.told.limits
  least_listed sweep_rule shortest_length line clients listed =
      least_is (Some listed.k) shortest_length line clients (ap (λ (f : Figures). f.workers) listed.figures_are.are) (ap (λ (f : Figures). f.least) listed.figures_are.are)

  least_unlimited : (shortest_length : ℕ) (start : ℕ → ℕ) (line : Figures) → has_clients instance.trace.version ≡ true
      → AreFigures None (work_of_instance instance) (least_in None instance shortest_length) start line → line.least ≡ greatest_limit line.workers told.told.limits
  least_unlimited shortest_length start line clients figures =
      least_is None shortest_length line clients (ap (λ (f : Figures). f.workers) figures.are) (ap (λ (f : Figures). f.least) figures.are)

  pub swept_least : (sweep_rule : Rule) (swept_workers starts : List ℕ) (shortest_length : ℕ) (listed : List Figures) (unlimited line : Figures)
      → has_clients instance.trace.version ≡ true → AreListed sweep_rule instance shortest_length swept_workers listed
      → AreFigures None (work_of_instance instance) (least_in None instance shortest_length) (start_of starts) unlimited
      → Contains (listed ++ unlimited ∷ []) line → line.least ≡ greatest_limit line.workers told.told.limits
  swept_least sweep_rule swept_workers starts shortest_length listed unlimited line clients each last has = by (Contains-append_cases listed (unlimited ∷ []) line has)
    where
      by : Contains listed line ⊎ Contains (unlimited ∷ []) line → line.least ≡ greatest_limit line.workers told.told.limits
      by (inl (i, inside, is)) = least_listed sweep_rule shortest_length line clients (subst (λ f. IsListed sweep_rule instance shortest_length f) is (each.each i line inside))
      by (inr (zero, inside, is)) =
          least_unlimited shortest_length (start_of starts) line clients
          (subst (λ f. AreFigures None (work_of_instance instance) (least_in None instance shortest_length) (start_of starts) f) is last)
      by (inr (suc i, inside, is)) = absurd (omega (arith, inside))

  -- without clients a plan by a rule keeps the order of the trace
  keeps_by : (version : Version) (start : ℕ → ℕ) → has_clients version ≡ false
      → Obeys (served_before version instance.tree instance.assigned (work_of_instance instance) start) (work_of_instance instance) start
      → Obeys (before_in instance) (work_of_instance instance) start
  keeps_by V1 start without obeys = obeys
  keeps_by V2 start without obeys = obeys
  keeps_by V3 start without obeys = absurd (cc)
  keeps_by V4 start without obeys = absurd (cc)

  listed_below : (figures : Figures) → has_clients instance.trace.version ≡ false
      → IsListed rule instance (length_of (work_of_instance instance) (start_of told.told.starts)) figures → told.told.limits.order ≤ figures.length
  listed_below figures without listed =
      let start = start_of listed.starts in
      let work = work_of_instance instance in
      let served = busy_served instance.trace.version rule instance.tree instance.assigned work listed.k start listed.list in
      let obeys = keeps_by instance.trace.version start without served.within.obeys in
      let keeps : KeepsOrderWhere (has_clients instance.trace.version) instance (start_of told.told.starts) start
      = subst (λ b. KeepsOrderWhere b instance (start_of told.told.starts) start) (sym without) obeys in
      let long : figures.length ≡ length_of work start = ap (λ (f : Figures). f.length) listed.figures_are.are in
      subst (λ n. told.told.limits.order ≤ n) (sym long)
      (shortest instance told.accepts.layout under (start_of told.told.starts) start told.told.limits told.told.least told.told.are_limits keeps)

  pub between : OrderIsBetween told.told.limits instance.trace.version told.told.listed
  between = record {
    above = not_below instance told.accepts.layout under (start_of told.told.starts) told.told.limits told.told.least told.told.are_limits;
    below = λ without i d inside. listed_below _ without (told.told.are_listed.each i d inside);
  }

-- and so are what lists need
pub after_is_between : ((instance : Instance) → AfterIsNotBelow instance) → ((instance : Instance) → NoListsAddNothing instance)
    → (rule : Rule) (hierarchy_file trace_file : List ℕ) → AfterIsBetweenInText rule hierarchy_file trace_file
after_is_between no_less nothing rule hierarchy_file trace_file workers text told =
    let limits = told.told.limits in
    let start = start_of told.told.starts in
    let most = (between rule hierarchy_file trace_file workers text told).above in
    record {
      above = no_less told.instance told.accepts.layout.spaces start limits told.told.are_limits;
      below = omega (arith, most);
      alone = nothing told.instance told.accepts.layout.spaces start limits told.told.are_limits;
    }

pub none_is_below_text : (rule : Rule) (hierarchy_file trace_file : List ℕ) → NoneIsBelowText rule hierarchy_file trace_file
none_is_below_text rule hierarchy_file trace_file workers text limit other told known obeys =
    none_below told.instance told.accepts.layout (under rule hierarchy_file trace_file workers text told) limit (start_of told.told.starts) other
    told.told.limits known told.told.are_limits obeys

pub limits_are_swept : (rule sweep_rule : Rule) (hierarchy_file trace_file : List ℕ) → LimitsAreSwept rule sweep_rule hierarchy_file trace_file
limits_are_swept rule sweep_rule hierarchy_file trace_file workers swept_workers text sweep line told swept clients has =
    let work = work_of_instance told.instance in
    let same = told_swept sweep_rule hierarchy_file trace_file swept_workers sweep told.instance told.accepts swept in
    swept_least rule hierarchy_file trace_file workers text told sweep_rule swept_workers swept.told.starts (length_of work (start_of swept.told.starts))
    swept.told.listed swept.told.unlimited line clients same.1 same.2 has

pub order_is_shortest_in_text : (rule : Rule) (hierarchy_file trace_file : List ℕ) → OrderIsShortestInText rule hierarchy_file trace_file
order_is_shortest_in_text rule hierarchy_file trace_file workers text other told keeps =
    shortest told.instance told.accepts.layout (under rule hierarchy_file trace_file workers text told) (start_of told.told.starts) other
    told.told.limits told.told.least told.told.are_limits keeps

pub order_is_between : (rule : Rule) (hierarchy_file trace_file : List ℕ) → OrderIsBetweenInText rule hierarchy_file trace_file
order_is_between rule hierarchy_file trace_file workers text told = between rule hierarchy_file trace_file workers text told

pub tree_is_reached_in_text : ((instance : Instance) → PathIsReached instance) → (rule : Rule) (hierarchy_file trace_file : List ℕ)
    → TreeIsReachedInText rule hierarchy_file trace_file
tree_is_reached_in_text law rule hierarchy_file trace_file workers text told none free =
    law told.instance told.accepts.layout (start_of told.told.starts) told.told.limits (under rule hierarchy_file trace_file workers text told) told.told.are_limits
    (unlocked_known told.accepts.layout told.instance.trace.messages told.instance.assigned none told.accepts.assignment) free

-- a cell that is needed longest is needed as long as any
within_most : (used : Cell → ℕ) (found : Option CellUse) → IsMostOf used found → (cell : Cell) → used cell ≤ ticks_of found
within_most used None none cell = omega (arith, none cell)
within_most used (Some one) most cell = most.most cell

module _ (spaces others : List Space) (messages : List Message) where
  -- where no more spaces are shared
  needed_less : SharesNoMore others spaces → (found other : Option CellUse) → IsMostOf (ticks_needed spaces messages) found
      → IsMostOf (ticks_needed others messages) other → ticks_of found ≤ ticks_of other
  needed_less shares None other most again = omega arith
  needed_less shares (Some one) other most again =
      let more = needed_more spaces others messages one.cell (shares one.cell) in
      omega (arith, most.ticks, more, within_most (ticks_needed others messages) other again one.cell)

  -- where the same are
  needed_same : SharesNoMore others spaces → SharesNoMore spaces others → ticks_needed spaces messages ≡ ticks_needed others messages
  needed_same less more = fun_ext (λ cell.
      let one = needed_more spaces others messages cell (less cell) in
      let other = needed_more others spaces messages cell (more cell) in
      omega (arith, one, other))

pub data_bounds_texts : (rule other_rule : Rule) (hierarchy_file other_file trace_file : List ℕ) → DataBoundsTexts rule other_rule hierarchy_file other_file trace_file
data_bounds_texts rule other_rule hierarchy_file other_file trace_file workers other_workers text other told again same_spaces =
    let spaces = told.accepts.layout.spaces in
    let others = again.accepts.layout.spaces in
    let messages = again.instance.trace.messages in
    let found = told.told.limits.cell in
    let same : told.instance.trace ≡ again.instance.trace
    = same_ok (trace_of spaces trace_file) told.instance.trace again.instance.trace told.accepts.is_trace
    (read_alike newest spaces others trace_file same_spaces ∙ again.accepts.is_trace) in
    let most : IsMostOf (ticks_needed spaces messages) found
    = subst (λ (t : Arrivals). IsMostOf (ticks_needed spaces t.messages) found) same told.told.are_limits.cell in
    let shared = told.told.limits.writes in
    let most_shared : IsMostOf (ticks_shared messages) shared
    = subst (λ (t : Arrivals). IsMostOf (ticks_shared t.messages) shared) same told.told.are_limits.writes in
    record {
      same_writes = most_of_is_one (ticks_shared messages) shared again.told.limits.writes most_shared again.told.are_limits.writes;
      writes = writes_below others messages shared again.told.limits.cell most_shared again.told.are_limits.cell;
      below = λ shares.
          let less = needed_less spaces others messages shares found again.told.limits.cell most again.told.are_limits.cell in
          let bound = cell_below again.instance again.accepts.layout (under other_rule other_file trace_file other_workers other again) again.told.limits.cell
          again.told.limits.locks again.told.are_limits.cell again.told.are_limits.locks in
          let path = again.told.are_limits.path.ticks in
          rw path (omega (arith, less, bound));
      same = λ less more. most_of_is_one (ticks_needed others messages) found again.told.limits.cell
          (subst (λ used. IsMostOf used found) (needed_same spaces others messages less more) most) again.told.are_limits.cell;
    }

-- What `locks` tells of each hierarchy is what `limits` tells under it.
use Rattle.std.proofs.Common.{◌≡◌, ℕ, zero, suc, List, [], ◌∷◌, Option, Some, None, refl, sym, ◌∙◌, ap, subst}
use Rattle.std.proofs.lemmas.Option.{same_Some}
use Rattle.waff_model.specs.Layout.{Hierarchy, IsLayout, Space, lockings_of, with_lockings}
use Rattle.waff_model.specs.Messages.{Arrivals, IsTrace}
use Rattle.waff_model.specs.declared.locking.Locking.{Locking}
use Rattle.waff_model.proofs.Relocking.{with_is_layout, with_their_own}
use Rattle.waff_assign.specs.Held.{Held}
use Rattle.waff_assign.specs.Instance.{Instance}
use Rattle.waff_assign.proofs.Uniqueness.{assignment_is_one}
use Rattle.waff_plan.specs.Instances.{work_of_instance}
use Rattle.waff_plan.specs.Timetable.{timings_of}
use Rattle.waff_plan.specs.Timing.{start_of}
use Rattle.waff_plan.proofs.Uniqueness.{same_length}
use Rattle.waff_list.specs.declared.rule.Rule.{Rule}
use Rattle.waff_list.proofs.TraceWork.{trace_is_small}
use Rattle.waff_figures.specs.Sweep.{IsListed, IsPlanOf}
use Rattle.waff_figures.specs.declared.figures.Figures.{Figures}
use Rattle.waff_figures.proofs.LeastLaws.{follows_in}
use Rattle.waff_inputs.specs.Inputs.{instance_under}
use Rattle.waff_inputs.specs.Known.{newest}
use Rattle.waff_limits.proofs.LockLaws.{locks_are, work_costs, work_count}
use Rattle.waff_locks.specs.Sets.{AreFigures, AreFiguresUnder, AreFiguresWith, IsListLength, instance_with}
use Rattle.waff_locks.specs.Steps.{AreSteps, HasFigures, with_one}
use Rattle.waff_locks.specs.declared.figures.SetFigures.{SetFigures}
use Rattle.waff_locks.specs.declared.figures.SpaceFigures.{SpaceFigures}
use Rattle.waff_locks.specs.declared.wanted.Wanted.{Wanted}
use Rattle.waff_read.proofs.LimitLaws.{layout_is_within_limits, trace_is_within_limits}
use Rattle.waff_tool.specs.LocksText.{AreOfLimits, LocksAreOfLimits, StepsAreOfLimits, wanted_of}
use Rattle.waff_tool.proofs.PlanUniqueness.{IsSound, least_in_one, rule_in_one}

-- the length of the plan for as many workers is that of a line of `limits`
plan_is : (rule : Rule) (instance : Instance) → IsSound instance → (shortest : ℕ) (workers plan : Option ℕ) (line : Figures)
    → IsListLength rule instance workers plan → IsListed rule instance shortest line → line.workers ≡ workers → plan ≡ Some line.length
plan_is rule instance sound shortest None plan line is listed for =
    absurd (let wrong : None ≡ Some listed.k = sym for ∙ ap (λ (f : Figures). f.workers) listed.figures_are.are in cc)
plan_is rule instance sound shortest (Some k) None line is listed for = absurd is
plan_is rule instance sound shortest (Some k) (Some length) line is listed for =
    let work = work_of_instance instance in
    let same : listed.k ≡ k = same_Some listed.k k (sym (ap (λ (f : Figures). f.workers) listed.figures_are.are) ∙ for) in
    let list = subst (λ n. IsPlanOf rule instance n (start_of listed.starts)) same listed.list in
    let starts = rule_in_one instance sound rule k (start_of is.0) (start_of listed.starts) is.1 list in
    ap (λ n. Some n)
    (is.2 ∙ same_length work (start_of is.0) (start_of listed.starts) starts ∙ sym (ap (λ (f : Figures). f.length) listed.figures_are.are))

-- the figures under a hierarchy
module _ (wanted : Wanted) (trace : Arrivals) (is_trace : IsTrace trace) where
  are_of_limits : (layout : Hierarchy) → IsLayout layout → (figures : SetFigures) → AreFiguresUnder wanted layout trace figures
      → AreOfLimits wanted trace layout figures
  are_of_limits layout is_layout figures under assigned workers text assignment told =
      let messages = trace.messages in
      let instance : Instance = instance_under layout assigned trace in
      let work = work_of_instance instance in
      let small = trace_is_small trace is_trace in
      let sound : IsSound instance = record { same = assignment.count; runs = small.some_cost; earlier = follows_in instance is_trace } in
      let same = assignment_is_one layout messages is_layout.tree under.assigned assigned under.assignment assignment in
      let are : AreFigures wanted instance figures = subst (λ (held : List Held). AreFigures wanted (instance_with layout trace held) figures) same under.are in
      let starts = least_in_one instance sound (start_of are.starts) (start_of told.starts) are.least told.least in
      let timings = timings_of messages in
      record {
        tree = are.tree ∙ sym told.are_limits.path.ticks;
        locks = are.locks
            ∙ sym (locks_are layout messages assigned assignment work (work_count messages timings refl) (work_costs messages timings refl)
            told.limits.locks told.are_limits.locks);
        order = are.order ∙ same_length work (start_of are.starts) (start_of told.starts) starts ∙ sym told.are_limits.order;
        total = are.total ∙ sym told.are_limits.total;
        plan = λ i d inside. plan_is wanted.rule instance sound _ wanted.workers figures.plan _ are.plan (told.are_listed.each i d inside);
      }

  module _ (layout : Hierarchy) (is_layout : IsLayout layout) where
    -- under the hierarchy with these locks
    with_are : (lockings : List Locking) (figures : SetFigures) → AreFiguresWith wanted layout trace lockings figures
        → AreOfLimits wanted trace (with_lockings layout lockings) figures
    with_are lockings = are_of_limits (with_lockings layout lockings) (with_is_layout layout lockings is_layout)

    -- with its own locks it is as it is
    own_are : (figures : SetFigures) → AreFiguresWith wanted layout trace (lockings_of layout.spaces) figures → AreOfLimits wanted trace layout figures
    own_are figures are =
        let own : with_lockings layout (lockings_of layout.spaces) ≡ layout
        = ap (λ (spaces : List Space). record layout { spaces = spaces }) (with_their_own layout.spaces) in
        are_of_limits layout is_layout figures (subst (λ (h : Hierarchy). AreFiguresUnder wanted h trace figures) own are)

    -- step by step
    steps_are : (most : ℕ) (lockings : List Locking) (steps : List SpaceFigures) → AreSteps wanted layout trace most lockings steps
        → StepsAreOfLimits wanted trace layout lockings steps
    steps_are most lockings [] are = tt
    steps_are zero lockings (step ∷ steps) are = absurd are
    steps_are (suc most) lockings (step ∷ steps) (first, rest) =
        let (i, inside, is) = first.among in
        let figures : HasFigures wanted layout trace lockings step = subst (HasFigures wanted layout trace lockings) is (first.are_tried.each i step inside) in
        (with_are (with_one wanted lockings step.space) step.figures figures, steps_are most (with_one wanted lockings step.space) steps rest)

-- the lines of a text
pub locks_are_of_limits : (workers : Option ℕ) (rule : Rule) (kind : Locking) (steps : ℕ) (hierarchy_file trace_file : List ℕ)
    → LocksAreOfLimits workers rule kind steps hierarchy_file trace_file
locks_are_of_limits workers rule kind steps hierarchy_file trace_file text told =
    let layout = told.accepts.layout in
    let trace = told.instance.trace in
    let wanted = wanted_of workers rule kind steps in
    let is_layout = layout_is_within_limits hierarchy_file layout told.accepts.is_layout in
    let is_trace = trace_is_within_limits newest layout.spaces trace_file trace told.accepts.is_trace in
    record {
      as_it_is = own_are wanted trace is_trace layout is_layout told.told.before told.told.as_it_is;
      each = λ i d inside. with_are wanted trace is_trace layout is_layout _ _ (told.told.each.each i d inside);
      in_turn = steps_are wanted trace is_trace layout is_layout steps (lockings_of layout.spaces) told.told.steps told.told.greedy;
      with_all = with_are wanted trace is_trace layout is_layout _ told.told.all told.told.with_all;
    }

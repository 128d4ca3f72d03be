-- Of the same bytes there is one sweep.
use Rattle.std.proofs.Common.{◌≡◌, ℕ, ◌<◌, List, map, length, get_or, Some, None, sym, ◌∙◌, ap, subst}
use Rattle.std.proofs.lemmas.List.{same_lists, get_or-map, length-map}
use Rattle.std.proofs.lemmas.Option.{same_Some}
use Rattle.waff_model.specs.Unique.{AtMostOne}
use Rattle.waff_assign.specs.Instance.{Instance}
use Rattle.waff_plan.specs.Instances.{served_first, work_of_instance}
use Rattle.waff_plan.specs.Obeys.{IsLeast}
use Rattle.waff_plan.specs.Timing.{start_of}
use Rattle.waff_plan.specs.Work.{length_of}
use Rattle.waff_plan.proofs.Uniqueness.{same_length}
use Rattle.waff_list.specs.declared.rule.Rule.{Rule}
use Rattle.waff_plan_text.specs.Lines.{text_of}
use Rattle.waff_figures.specs.Figures.{AreFigures}
use Rattle.waff_figures.specs.Least.{least_in}
use Rattle.waff_figures.specs.Sweep.{AreListed, IsListed, IsPlanOf, sweep_lines}
use Rattle.waff_figures.specs.declared.figures.Figures.{Figures}
use Rattle.waff_figures.proofs.FigureLaws.{figures_are_one}
use Rattle.waff_inputs.specs.Inputs.{Accepts}
use Rattle.waff_inputs.proofs.SameInput.{same_input}
use Rattle.waff_tool.specs.Figures.{IsSweepText, TellsSweep}
use Rattle.waff_tool.proofs.PlanUniqueness.{IsSound, least_in_one, rule_in_one}

-- the figures of plans by the same rule for the same number of workers are the same
pub listed_same : (rule : Rule) (instance : Instance) → IsSound instance → (shortest : ℕ) (one other : Figures)
    → IsListed rule instance shortest one → IsListed rule instance shortest other → one.workers ≡ other.workers → one ≡ other
listed_same rule instance sound shortest one other p q workers =
    let work = work_of_instance instance in
    let first : one.workers ≡ Some p.k = ap (λ (f : Figures). f.workers) p.figures_are.are in
    let second : other.workers ≡ Some q.k = ap (λ (f : Figures). f.workers) q.figures_are.are in
    let same_k : p.k ≡ q.k = same_Some p.k q.k (sym first ∙ workers ∙ second) in
    let list = subst (λ k. IsPlanOf rule instance k (start_of q.starts)) (sym same_k) q.list in
    let figures = subst (λ k. AreFigures (Some k) work (least_in (Some k) instance shortest) (start_of q.starts) other) (sym same_k) q.figures_are in
    let same = rule_in_one instance sound rule p.k (start_of p.starts) (start_of q.starts) p.list list in
    figures_are_one work (Some p.k) (least_in (Some p.k) instance shortest) (start_of p.starts) (start_of q.starts) one other sound.earlier same
    p.figures_are figures

-- there is one for each number of workers, in its place
pub count_of : (listed : List Figures) (workers : List ℕ) → map (λ (f : Figures). f.workers) listed ≡ map (λ (k : ℕ). Some k) workers
    → length listed ≡ length workers
count_of listed workers in_turn =
    sym (length-map listed (λ (f : Figures). f.workers)) ∙ ap length in_turn ∙ length-map workers (λ (k : ℕ). Some k)

pub workers_at : (listed : List Figures) (workers : List ℕ) → map (λ (f : Figures). f.workers) listed ≡ map (λ (k : ℕ). Some k) workers
    → (i : ℕ) (d : Figures) (e : ℕ) → i < length listed → (get_or listed i d).workers ≡ Some (get_or workers i e)
workers_at listed workers in_turn i d e inside =
    let there : i < length workers = subst (λ n. i < n) (count_of listed workers in_turn) inside in
    sym (get_or-map (λ (f : Figures). f.workers) listed i d None inside) ∙ ap (λ ws. get_or ws i None) in_turn
    ∙ get_or-map (λ (k : ℕ). Some k) workers i e None there

-- the list of them is one
pub listed_is_one : (rule : Rule) (instance : Instance) → IsSound instance → (shortest : ℕ) (workers : List ℕ) (one other : List Figures)
    → AreListed rule instance shortest workers one → AreListed rule instance shortest workers other → one ≡ other
listed_is_one rule instance sound shortest workers one other p q =
    let long : length one ≡ length other = count_of one workers p.in_turn ∙ sym (count_of other workers q.in_turn) in
    same_lists one other long (λ i d inside.
    let there : i < length other = subst (λ n. i < n) long inside in
    let same : (get_or one i d).workers ≡ (get_or other i d).workers
    = workers_at one workers p.in_turn i d 0 inside ∙ sym (workers_at other workers q.in_turn i d 0 there) in
    listed_same rule instance sound shortest (get_or one i d) (get_or other i d) (p.each i d inside) (q.each i d there) same)

-- the sweep
pub sweep_is_one : (rule : Rule) (workers : List ℕ) (instance : Instance) → IsSound instance → AtMostOne (TellsSweep rule workers instance)
sweep_is_one rule workers instance sound text other p q =
    let work = work_of_instance instance in
    let same = least_in_one instance sound (start_of p.starts) (start_of q.starts) p.least q.least in
    let lengths = same_length work (start_of p.starts) (start_of q.starts) same in
    let lists = listed_is_one rule instance sound (length_of work (start_of p.starts)) workers p.listed q.listed p.are_listed
    (subst (λ n. AreListed rule instance n workers q.listed) (sym lengths) q.are_listed) in
    let last = figures_are_one work None (least_in None instance (length_of work (start_of p.starts))) (start_of p.starts) (start_of q.starts)
    p.unlimited q.unlimited sound.earlier same p.are_unlimited
    (subst (λ n. AreFigures None work (least_in None instance n) (start_of q.starts) q.unlimited) (sym lengths) q.are_unlimited) in
    p.lines ∙ ap (λ fs. text_of (sweep_lines fs p.unlimited)) lists ∙ ap (λ f. text_of (sweep_lines q.listed f)) last ∙ sym q.lines

-- what a sweep of the same bytes tells of an instance
abbrev pub IsSwept : Rule → List ℕ → List ℕ → List Figures → Figures → Instance → Type 0
IsSwept rule workers starts listed unlimited instance =
    IsLeast (served_first instance (start_of starts)) (work_of_instance instance) (start_of starts)
    × AreListed rule instance (length_of (work_of_instance instance) (start_of starts)) workers listed
    × AreFigures None (work_of_instance instance) (least_in None instance (length_of (work_of_instance instance) (start_of starts))) (start_of starts) unlimited

pub told_swept : (rule : Rule) (hierarchy_file trace_file workers sweep : List ℕ) (instance : Instance) → Accepts hierarchy_file trace_file instance
    → (swept : IsSweepText rule hierarchy_file trace_file workers sweep) → IsSwept rule workers swept.told.starts swept.told.listed swept.told.unlimited instance
told_swept rule hierarchy_file trace_file workers sweep instance accepts swept =
    subst (IsSwept rule workers swept.told.starts swept.told.listed swept.told.unlimited)
    (sym (same_input hierarchy_file trace_file instance swept.instance accepts swept.accepts)) (swept.told.least, swept.told.are_listed, swept.told.are_unlimited)

-- What `least` and `over` tell of a plan, beside all plans for as many workers.
use Rattle.std.specs.Prelude.{◌≡◌, ℕ, ◌*◌, ◌/◌, ◌^◌, ◌<◌, ◌≤◌, Bool, true, false, List, Option, Some}
use Rattle.std.specs.Prelude.{None, IfSome, codes, length}
use Rattle.waff_model.specs.Tree.{IsTree}
use Rattle.waff_model.specs.Versions.{has_clients}
use Rattle.waff_assign.specs.Instance.{Instance}
use Rattle.waff_plan.specs.Bound.{IsWorkers}
use Rattle.waff_plan.specs.Instances.{served_first, work_of_instance}
use Rattle.waff_plan.specs.Laws.{least_for}
use Rattle.waff_plan.specs.LowerBound.{lower_bound_of}
use Rattle.waff_plan.specs.Obeys.{AwaitsEarlier, IsLeast}
use Rattle.waff_plan.specs.Rivals.{IsRival}
use Rattle.waff_plan.specs.Work.{length_of, total_of}
use Rattle.waff_plan_text.specs.Ratio.{hundredths_field, ratio_up_field}
use Rattle.waff_figures.specs.Figures.{AreFigures}
use Rattle.waff_figures.specs.declared.figures.Figures.{Figures}

-- no plan for as many workers beside which a plan is told is shorter than this
abbrev pub IsLowerBound : Option ℕ → Instance → ℕ → Type 0
IsLowerBound limit instance bound =
    (other : ℕ → ℕ) → IsRival limit instance other
    → bound ≤ length_of (work_of_instance instance) other

-- such a number of ticks by the length of the unlimited plan, and without workers that length
abbrev pub least_of : Option ℕ → ℕ → ℕ → ℕ
least_of None total shortest = shortest
least_of (Some k) total shortest = least_for k total shortest

-- such a number of ticks, where the unlimited plan is this long: where messages have clients by what
-- workers, messages that await one another and paths of affinities need in whatever order, else by that
-- length
abbrev pub least_where : Bool → Option ℕ → Instance → ℕ → ℕ
least_where false limit instance shortest =
    least_of limit (total_of (work_of_instance instance)) shortest
least_where true limit instance shortest =
    lower_bound_of limit instance.tree instance.assigned (work_of_instance instance)

abbrev pub least_in : Option ℕ → Instance → ℕ → ℕ
least_in limit instance shortest =
    least_where (has_clients instance.trace.version) limit instance shortest

-- `least` is such a bound
abbrev pub LeastIsLowerBound : Instance → Type 0
LeastIsLowerBound instance =
    (limit : Option ℕ) (start : ℕ → ℕ) → IfSome limit IsWorkers → IsTree instance.tree
    → length instance.assigned ≡ length instance.trace.messages
    → AwaitsEarlier (work_of_instance instance)
    → IsLeast (served_first instance start) (work_of_instance instance) start
    → IsLowerBound limit instance
    (least_in limit instance (length_of (work_of_instance instance) start))

-- the field that tells how much longer a plan is than `least`
abbrev pub over_field : Figures → List ℕ
over_field figures = ratio_up_field figures.length figures.least

-- a plan is at most as many hundredths of times as long as each of these plans as `over` says
abbrev pub OverIsUpperBound : Instance → Type 0
OverIsUpperBound instance =
    (limit : Option ℕ) (least over : ℕ) (start other : ℕ → ℕ) (figures : Figures)
    → AreFigures limit (work_of_instance instance) least start figures
    → figures.length < 2 ^ 64 → IsLowerBound limit instance figures.least
    → over / 100 < 2 ^ 64 → over_field figures ≡ hundredths_field over
    → IsRival limit instance other
    → 100 * length_of (work_of_instance instance) start
    ≤ over * length_of (work_of_instance instance) other

-- where `over` is `1.00`, none of them is shorter
abbrev pub OneIsShortest : Instance → Type 0
OneIsShortest instance =
    (limit : Option ℕ) (least : ℕ) (start other : ℕ → ℕ) (figures : Figures)
    → AreFigures limit (work_of_instance instance) least start figures
    → figures.length < 2 ^ 64 → IsLowerBound limit instance figures.least
    → over_field figures ≡ codes "1.00" → IsRival limit instance other
    → length_of (work_of_instance instance) start ≤ length_of (work_of_instance instance) other

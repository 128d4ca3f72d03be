-- What `least` and `over` tell of a plan, from what is known of all plans and of all printed ratios.
use Rattle.std.proofs.Common.{◌≡◌, ℕ, ◌*◌, ◌≤◌, length, [], ◌∷◌, ◌++◌, Option, Some, None, IfSome, codes, decimal, arith, sym, ◌∙◌, ap}
use Rattle.std.proofs.lemmas.Fmt.{decimal_digit}
use Rattle.std.proofs.Math.Nat.{mul-le-mul_left}
use Rattle.waff_model.specs.Messages.{IsTrace}
use Rattle.waff_model.specs.Tree.{IsTree}
use Rattle.waff_model.specs.Versions.{has_clients}
use Rattle.waff_model.specs.declared.message.Version.{Version}
use Rattle.waff_model.specs.declared.message.Version.TheVariants.{V1, V2, V3, V4}
use Rattle.waff_assign.specs.Instance.{Instance, before_in}
use Rattle.waff_assign.specs.Order.{Relation}
use Rattle.waff_plan.specs.Bound.{IsWorkers}
use Rattle.waff_plan.specs.Instances.{work_of_instance}
use Rattle.waff_plan.specs.Laws.{LeastIsShortest, NoneIsShorter}
use Rattle.waff_plan.specs.LowerBound.{NoneIsBelow}
use Rattle.waff_plan.specs.Obeys.{AwaitsEarlier, IsLeast}
use Rattle.waff_plan.specs.Rivals.{IsRivalWhere, ObeysFor}
use Rattle.waff_plan.specs.Serving.{served_before}
use Rattle.waff_plan.specs.Work.{Work, length_of, total_of}
use Rattle.waff_plan.proofs.TimingLemmas.{are_timings, length-timings_of}
use Rattle.waff_plan_text.specs.Ratio.{RatioUpIsUpperBound, hundredths_field}
use Rattle.waff_figures.specs.declared.figures.Figures.{Figures}
use Rattle.waff_figures.specs.Least.{LeastIsLowerBound, OneIsShortest, OverIsUpperBound, least_of, least_where}

-- in the order of the trace
least_in_order : (limit : Option ℕ) (before : Relation) (work : Work) → LeastIsShortest before work → NoneIsShorter before work → (start other : ℕ → ℕ)
    → IfSome limit IsWorkers → IsLeast before work start → ObeysFor limit before work other
    → least_of limit (total_of work) (length_of work start) ≤ length_of work other
least_in_order None before work shortest shared start other known least obeys = shortest start other least obeys
least_in_order (Some k) before work shortest shared start other known least plan = shared k start other known.from least plan

-- what a message of a trace awaits comes earlier
pub follows_in : (instance : Instance) → IsTrace instance.trace → AwaitsEarlier (work_of_instance instance)
follows_in instance is = (are_timings instance.trace is).earlier

module _ (instance : Instance) (shortest : LeastIsShortest (before_in instance) (work_of_instance instance))
    (shared : NoneIsShorter (before_in instance) (work_of_instance instance))
    (below : (workers : Option ℕ) → NoneIsBelow workers instance.tree instance.assigned (work_of_instance instance)) where
  abbrev work : Work
  work = work_of_instance instance

  by_version : (version : Version) (limit : Option ℕ) (start other : ℕ → ℕ) → IfSome limit IsWorkers → IsTree instance.tree
      → length instance.assigned ≡ length instance.trace.messages → AwaitsEarlier work
      → IsLeast (served_before version instance.tree instance.assigned work start) work start → IsRivalWhere (has_clients version) limit instance other
      → least_where (has_clients version) limit instance (length_of work start) ≤ length_of work other
  by_version V1 limit start other known tree count earlier least rival = least_in_order limit (before_in instance) work shortest shared start other known least rival
  by_version V2 limit start other known tree count earlier least rival = least_in_order limit (before_in instance) work shortest shared start other known least rival
  by_version V3 limit start other known tree count earlier least rival =
      below limit tree (count ∙ sym (length-timings_of instance.trace.messages)) known earlier other rival
  by_version V4 limit start other known tree count earlier least rival =
      below limit tree (count ∙ sym (length-timings_of instance.trace.messages)) known earlier other rival

  pub least_is_lower_bound : LeastIsLowerBound instance
  least_is_lower_bound limit start known tree count earlier least other rival =
      by_version instance.trace.version limit start other known tree count earlier least rival

pub over_is_upper_bound : (instance : Instance) → RatioUpIsUpperBound → OverIsUpperBound instance
over_is_upper_bound instance ratio limit least over start other figures is small bound fits printed rival =
    let work = work_of_instance instance in
    let up : 100 * figures.length ≤ over * figures.least = ratio figures.length figures.least over small fits printed in
    let more : over * figures.least ≤ over * length_of work other = mul-le-mul_left over (bound other rival) in
    let long : figures.length ≡ length_of work start = ap (λ (f : Figures). f.length) is.are in
    omega (arith, up, more, long)

one_in_hundredths : hundredths_field 100 ≡ codes "1.00"
one_in_hundredths =
    ap (λ d. ((d ++ codes ".") ++ decimal 0) ++ decimal 0) (decimal_digit 1 (omega arith))
    ∙ ap (λ d. ((49 ∷ [] ++ codes ".") ++ d) ++ d) (decimal_digit 0 (omega arith))

pub one_is_shortest : (instance : Instance) → OverIsUpperBound instance → OneIsShortest instance
one_is_shortest instance upper limit least start other figures is small bound printed rival =
    let work = work_of_instance instance in
    let up : 100 * length_of work start ≤ 100 * length_of work other
    = upper limit least 100 start other figures is small bound (omega arith) (printed ∙ sym one_in_hundredths) rival in
    omega (arith, up)

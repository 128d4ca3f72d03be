use Rattle.std.proofs.Common.{Some, sym, ◌∙◌, ap, subst}
use Rattle.std.proofs.lemmas.Result.{IfOk-weaker}
use Rattle.waff_assign.specs.Case.{instance_of}
use Rattle.waff_plan.specs.Bound.{IsWorkers}
use Rattle.waff_plan.specs.Instances.{work_of_instance}
use Rattle.waff_plan.specs.Timing.{start_of, work_of}
use Rattle.waff_plan.specs.Work.{length_of}
use Rattle.waff_figures.specs.Figures.{AreFigures}
use Rattle.waff_figures.specs.Least.{IsLowerBound, least_in}
use Rattle.waff_figures.specs.declared.figures.Figures.{Figures}
use Rattle.waff_figures.proofs.LeastLaws.{follows_in}
use Rattle.waff_figures.proofs.sweep.figures_for.Goals as goal

pub invariant_of-planned : goal.invariant_of-planned
invariant_of-planned c =
    let unlimited = c.args.unlimited.now in
    let made = c.in_ok-made.ensures in
    record {
      version = rw c.plan.ensures.plan made.version;
      timings = rw c.plan.ensures.plan made.timings;
      lengths = rw (c.plan.ensures.plan, made.timings, sym unlimited.timings) unlimited.lengths;
    }

pub returns-clause-listed : goal.returns-clause-listed
returns-clause-listed c =
    let unlimited = c.args.unlimited.now in
    let case = unlimited.case in
    let instance = instance_of case in
    let made = c.in_ok-made.made in
    let plan = unlimited.plan.now in
    let work = work_of_instance instance in
    let limit = Some c.args.k in
    let shortest = length_of (work_of plan.timings) (start_of plan.starts) in
    let least = rw (unlimited.version, unlimited.timings) at c.requires.least in
    let bound = c.least_is_lower_bound.ensures.bound instance limit (start_of plan.starts) (subst IsWorkers c.number-fits.ensures.number c.number-fits.ensures.is) c.len-affinities.ensures.tree case.lengths
    (follows_in instance c.len-messages.ensures.trace) least in
    IfOk-weaker c.figures_of-figures.result (AreFigures limit work (least_in limit instance shortest) (start_of made.plan.starts)) _
    (λ figures told. record {
      k = c.args.k;
      starts = made.plan.starts;
      list = rw c.in_ok-made.ensures.timings at c.in_ok-made.ensures.follows;
      figures_are = told;
      least = subst (λ n. IsLowerBound limit instance n)
          (sym (ap (λ (f : Figures). f.least) told.are ∙ ap (λ ts. least_in limit instance (length_of (work_of ts) (start_of plan.starts))) unlimited.timings)) bound;
    })
    (rw (c.plan.ensures.plan, c.in_ok-made.ensures.timings, c.length.ensures.length) at c.figures_of-figures.ensures)

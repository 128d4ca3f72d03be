use Rattle.std.proofs.Common.{sym, ap, subst}
use Rattle.std.proofs.lemmas.Result.{IfOk-weaker}
use Rattle.waff_assign.specs.Case.{instance_of}
use Rattle.waff_plan.specs.Instances.{work_of_instance}
use Rattle.waff_plan.specs.Timing.{start_of}
use Rattle.waff_plan.specs.Work.{length_of}
use Rattle.waff_check.specs.Verdicts.{starts_of}
use Rattle.waff_figures.specs.Figures.{AreFigures}
use Rattle.waff_figures.specs.Least.{IsLowerBound, least_in}
use Rattle.waff_figures.specs.declared.figures.Figures.{Figures}
use Rattle.waff_figures.proofs.LeastLaws.{follows_in}
use Rattle.waff_tool.proofs.CertificateLemmas.{as_many}
use Rattle.waff_tool.proofs.rates.given_figures.Goals as goal

pub invariant_of-planned : goal.invariant_of-planned
invariant_of-planned c = record {
  version = c.in_ok-handed.ensures.version;
  timings = c.in_ok-handed.ensures.timings;
  lengths = as_many c.args.case.now.trace.now.messages _ _ c.in_ok-handed.ensures.timings c.args.case.now.lengths;
}

pub returns : goal.returns
returns c =
    let case = c.args.case.now in
    let instance = instance_of case in
    let work = work_of_instance instance in
    let limit = c.args.given.now.summary.workers in
    let handed = c.in_ok-handed.ensures in
    let version = c.in_ok-unlimited.ensures.version in
    let timings = c.in_ok-unlimited.ensures.timings in
    let starts = c.in_ok-unlimited.unlimited.starts in
    let least = rw (version, timings) at c.in_ok-unlimited.ensures.least in
    IfOk-weaker c.figures_of-figures.result (AreFigures limit work (least_in limit instance (length_of work (start_of starts))) (start_of (starts_of c.args.given.now))) _
    (λ figures are_figures. record {
      starts = starts;
      least = least;
      are_figures = are_figures;
      bound = subst (λ n. IsLowerBound limit instance n) (sym (ap (λ (f : Figures). f.least) are_figures.are))
          (c.least_is_lower_bound.ensures.bound instance limit (start_of starts) handed.given.workers c.len-affinities.ensures.tree case.lengths
          (follows_in instance c.len-messages.ensures.trace) least);
    })
    (rw (handed.timings, handed.starts, c.limit_of.ensures, c.workers.ensures, c.length-shortest.ensures.length, timings) at c.figures_of-figures.ensures)

use Rattle.std.proofs.Common.{None, sym, ◌∙◌, ap, subst}
use Rattle.std.proofs.lemmas.Result.{IfOk-weaker}
use Rattle.waff_assign.specs.Case.{instance_of}
use Rattle.waff_plan.specs.Timing.{start_of}
use Rattle.waff_plan_text.specs.Lines.{text_of}
use Rattle.waff_figures.specs.Least.{IsLowerBound}
use Rattle.waff_figures.specs.Sweep.{sweep_lines}
use Rattle.waff_figures.specs.declared.figures.Figures.{Figures}
use Rattle.waff_figures.proofs.LeastLaws.{follows_in}
use Rattle.waff_tool.proofs.CertificateLemmas.{as_many}
use Rattle.waff_tool.proofs.sweeps.text_for.Goals as goal

pub invariant_of-planned : goal.invariant_of-planned
invariant_of-planned g c = record {
  version = c.in_ok-plan.ensures.version;
  timings = c.in_ok-plan.ensures.timings;
  lengths = as_many c.args.case.now.trace.now.messages _ _ c.in_ok-plan.ensures.timings c.args.case.now.lengths;
}

pub list_figures-requires-clause-least : goal.list_figures-requires-clause-least
list_figures-requires-clause-least g c κs lives = c.in_ok-plan.ensures.least

pub returns : goal.returns
returns g c =
    let starts = c.in_ok-plan.plan.starts in
    let listed = c.in_ok-listed.listed.items in
    let unlimited = c.in_ok-unlimited.unlimited in
    let case = c.args.case.now in
    let instance = instance_of case in
    let version = c.in_ok-plan.ensures.version in
    let timings = c.in_ok-plan.ensures.timings in
    let least = rw (version, timings) at c.in_ok-plan.ensures.least in
    let told = rw (c.length.ensures.length, timings) at c.in_ok-unlimited.ensures in
    IfOk-weaker c.figures_text-text.result _ _
    (λ text lines. record {
      starts = starts;
      listed = listed;
      unlimited = unlimited;
      least = least;
      are_listed = rw timings at c.in_ok-listed.ensures;
      are_unlimited = told;
      bound = subst (λ n. IsLowerBound None instance n) (sym (ap (λ (f : Figures). f.least) told.are))
          (c.least_is_lower_bound.ensures.bound instance None (start_of starts) tt c.len-affinities.ensures.tree case.lengths
          (follows_in instance c.len-messages.ensures.trace) least);
      lines = lines ∙ ap (λ fs. text_of (sweep_lines fs unlimited)) c.as_slice.ensures.value;
    })
    c.figures_text-text.ensures

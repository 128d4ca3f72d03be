use Rattle.std.proofs.Common.{◌∙◌, ap}
use Rattle.std.proofs.lemmas.Result.{IfOk-weaker}
use Rattle.waff_plan_text.specs.Lines.{text_of}
use Rattle.waff_limits.specs.Limits.{limits_lines}
use Rattle.waff_tool.proofs.CertificateLemmas.{as_many}
use Rattle.waff_tool.proofs.limits.limited_text.Goals as goal

pub invariant_of-planned : goal.invariant_of-planned
invariant_of-planned g c = record {
  version = c.in_ok-plan.ensures.version;
  timings = c.in_ok-plan.ensures.timings;
  lengths = as_many c.args.case.now.trace.now.messages _ _ c.in_ok-plan.ensures.timings c.args.case.now.lengths;
}

pub list_figures-requires-clause-least : goal.list_figures-requires-clause-least
list_figures-requires-clause-least g c κs lives = c.in_ok-plan.ensures.least

pub returns : goal.returns
returns g c =
    let case = c.args.case.now in
    let limits = c.in_ok-limits.limits in
    let version = c.in_ok-plan.ensures.version in
    let timings = c.in_ok-plan.ensures.timings in
    IfOk-weaker c.limits_text-text.result _ _
    (λ text lines. record {
      starts = c.in_ok-plan.plan.starts;
      limits = limits;
      listed = c.in_ok-listed.listed.items;
      fits = c.requires.fits;
      least = rw (version, timings) at c.in_ok-plan.ensures.least;
      are_limits = c.in_ok-limits.ensures;
      are_listed = rw timings at c.in_ok-listed.ensures;
      lines = lines ∙ ap (λ fs. text_of (limits_lines c.args.layout.now.spaces case.tree.now case.trace.now c.args.workers.now limits fs)) c.as_slice.ensures.value;
    })
    c.limits_text-text.ensures

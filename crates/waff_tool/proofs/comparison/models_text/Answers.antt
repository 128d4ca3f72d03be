use Rattle.std.proofs.lemmas.Result.{err_from_is_err_and}
use Rattle.waff_inputs.proofs.Refusals.{trace_refuses}
use Rattle.waff_tool.proofs.ComparisonLemmas.{trace_is_read}
use Rattle.waff_tool.proofs.comparison.models_text.Goals as goal

pub returns-in_err-trace-clause-refused : goal.returns-in_err-trace-clause-refused
returns-in_err-trace-clause-refused c =
    let p = err_from_is_err_and c.from_residual.result c.from_residual.ensures.1 in
    rw (p.1, p.2) (trace_refuses c.args.models.now.classical c.args.trace.now c.in_err-trace.field-0.0 c.in_err-trace.ensures.exact)

pub returns-in_err-trace-clause-nothing : goal.returns-in_err-trace-clause-nothing
returns-in_err-trace-clause-nothing c =
    let p = err_from_is_err_and c.from_residual.result c.from_residual.ensures.1 in
    rw (p.1, p.2) (trace_is_read c.in_err-trace.field-0.0)

use Rattle.std.proofs.Common.{List, ℕ, string_bytes}
use Rattle.std.proofs.lemmas.Result.{IfErr-weaker, IfOk-weaker, err_from_is_err_and}
use Rattle.waff_inputs.specs.Inputs.{IsRefusal, trace_over}
use Rattle.waff_tool.proofs.ComparisonRefusals.{files_refuse, trace_refuses}
use Rattle.waff_tool.specs.Comparison.{AreModels, IsCompareText, RefusesComparison}
use Rattle.waff_tool.proofs.comparison.made_compare_text.Goals as goal

pub returns-in_err-models : goal.returns-in_err-models
returns-in_err-models c =
    let p = err_from_is_err_and c.from_residual.result c.from_residual.ensures.1 in
    rw (p.1, p.2) (record {
      made = tt;
      refused = files_refuse c.args.first.now c.args.second.now c.args.trace.now c.in_err-models.field-0.0 c.in_err-models.ensures.refused;
      unwritten = c.in_err-models.ensures.nothing;
    })

pub returns : goal.returns
returns c =
    let first = c.args.first.now in
    let second = c.args.second.now in
    let trace = c.args.trace.now in
    let k = c.args.k in
    let models = c.in_ok-models.models in
    let are = c.in_ok-models.ensures.models in
    record {
      made = IfOk-weaker c.models_text-text.result
          (λ text. (first_file second_file : List ℕ) → AreModels first_file second_file models.classical models.hierarchical
          → IsCompareText first_file second_file trace k (string_bytes text))
          (λ text. IsCompareText first second trace k (string_bytes text))
          (λ text made. made first second are)
          c.models_text-text.ensures.made;
      refused = IfErr-weaker c.models_text-text.result (IsRefusal (trace_over models.classical trace)) (RefusesComparison first second trace)
          (λ error. trace_refuses first second trace models.classical models.hierarchical error are) c.models_text-text.ensures.refused;
      unwritten = c.models_text-text.ensures.nothing;
    }

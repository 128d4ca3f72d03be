use Rattle.std.proofs.Common.{string_bytes, ap, ◌++◌, ◌∙◌}
use Rattle.std.proofs.lemmas.Result.{on_ok_weaker}
use Rattle.waff_model.specs.Versions.{has_releases}
use Rattle.waff_tool.specs.Comparison.{kind_field}
use Rattle.waff_tool.proofs.ComparisonLemmas.{measured_further}
use Rattle.waff_tool.proofs.measures.push_measured.Goals as goal

pub returns : goal.returns
returns c =
    let measured = c.args.measured.now in
    on_ok_weaker c.writeln.result
    (measured_further (has_releases c.args.version) (kind_field measured.kind) measured.unlimited measured.listed (string_bytes c.args.text.now)
    (string_bytes c.push_str.new.self) (string_bytes c.push_plan.new.text) (string_bytes c.push_plan-2.new.text) (string_bytes c.writeln.new.self)
    (c.in_ok-push_str.ensures.bytes ∙ ap (λ name. string_bytes c.args.text.now ++ name) c.kind_name.ensures)
    c.in_ok-push_plan.ensures c.in_ok-push_plan-2.ensures)
    c.writeln.ensures.bytes

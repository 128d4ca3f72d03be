use Rattle.std.proofs.Common.{string_bytes}
use Rattle.waff_tool.proofs.ExplainedLines.{explanation_more}
use Rattle.waff_tool.proofs.explains.tell_near.Goals as goal

pub returns : goal.returns
returns c file trace plan is =
    rw c.in_ok-push_str.ensures.bytes
    (explanation_more file trace plan c.args.made.explained (string_bytes c.args.made.text) c.as_str.result.now is
    (rw c.as_str.ensures.value c.in_ok-near.ensures))

use Rattle.std.proofs.lemmas.Result.{IfOk-weaker}
use Rattle.waff_explain.proofs.LineLaws.{parts-free}
use Rattle.waff_explain.proofs.words.line_of.Goals as goal

pub returns : goal.returns
returns c =
    IfOk-weaker c.format-2.result _ _
    (λ line is. record {
      head = c.args.head;
      said = c.cut.result.0.now;
      one_line = parts-free 10 c.as_str.result.now c.cut.result.0.now _ c.cut.ensures;
      whole = is;
    })
    c.format-2.ensures.ok

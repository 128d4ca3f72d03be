-- An operation of the range more, and one fewer to come.
use Rattle.std.proofs.Common.{[], ◌∷◌, ◌+◌, ◌∙◌, take, ap, arith}
use Rattle.std.proofs.lemmas.List.{length-append}
use Rattle.waff_read.proofs.OpsLaws.{ops_from-more}
use Rattle.waff_read.proofs.ops.keep_range.Goals as goal

pub loop-index-preserved : goal.loop-index-preserved
loop-index-preserved c =
    let range = c.args.range in
    let pushed = c.in_ok-push.ensures.pushed in
    let one = c.on.ensures in
    record {
      few = rw pushed (omega (arith, length-append c.loop-index.list (c.on.result ∷ []), c.if-most-len.false, c.len.ensures));
      kept = rw (pushed, one)
          (ap (take (c.args.most + 1)) (ops_from-more range.deed range.first.space c.loop-index.index range.last c.loop-index.list (omega (arith, c.loop-index-test.true)))
          ∙ c.loop-index.invariant.kept);
    }

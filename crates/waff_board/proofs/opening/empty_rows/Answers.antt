use Rattle.std.proofs.Common.{◌+◌, length, ap, ◌∙◌}
use Rattle.std.proofs.lemmas.List.{length_push}
use Rattle.waff_board.proofs.opening.empty_rows.Goals as goal

pub loop-row-preserved : goal.loop-row-preserved
loop-row-preserved c =
    ap length c.in_ok-push.ensures.items ∙ length_push c.loop-row.rows.items c.new.result ∙ ap (λ n. n + 1) c.loop-row.invariant

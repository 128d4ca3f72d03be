use Rattle.std.proofs.lemmas.Result.{err_from_is_err_and}
use Rattle.waff_tool.proofs.ranks.made_rank_text.Goals as goal

pub returns-in_err-layouts : goal.returns-in_err-layouts
returns-in_err-layouts g c =
    let p = err_from_is_err_and c.from_residual.result c.from_residual.ensures.1 in
    rw (p.1, p.2)
    (record {
      made = tt;
      refused = c.in_err-layouts.ensures.refused c.args.trace.now;
      unwritten = c.in_err-layouts.ensures.nothing;
    })

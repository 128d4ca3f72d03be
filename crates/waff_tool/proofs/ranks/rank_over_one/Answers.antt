use Rattle.std.proofs.Common.{rules}
use Rattle.std.proofs.lemmas.Result.{err_from_is_err_and}
use Rattle.waff_tool.proofs.ComparisonLemmas.{trace_is_read}
use Rattle.waff_tool.proofs.RankLemmas.{all_fit, ranked_together, refuted_at_first}
use Rattle.waff_tool.proofs.ResultLemmas.{if_ok_turned}
use Rattle.waff_tool.proofs.ranks.rank_over_one.Goals as goal

pub returns-in_err-trace-clause-refused : goal.returns-in_err-trace-clause-refused
returns-in_err-trace-clause-refused g c =
    let p = err_from_is_err_and c.from_residual.result c.from_residual.ensures.1 in
    rw (p.1, p.2)
    (λ files are. refuted_at_first files c.args.trace.now c.args.layouts.now c.args.first.now c.in_err-trace.field-0.0 are c.requires.first
    c.in_err-trace.ensures.exact)

pub returns-in_err-trace-clause-nothing : goal.returns-in_err-trace-clause-nothing
returns-in_err-trace-clause-nothing g c =
    let p = err_from_is_err_and c.from_residual.result c.from_residual.ensures.1 in
    rw (p.1, p.2) (trace_is_read c.in_err-trace.field-0.0)

pub rank_side_by_side-ranks-requires-clause-fits : goal.rank_side_by_side-ranks-requires-clause-fits
rank_side_by_side-ranks-requires-clause-fits g c =
    let fits = all_fit c.in_ok-trace.trace.sizes c.args.first.now c.args.layouts.now c.in_ok-trace.ensures.fits c.requires.same_spaces in
    search rules

pub returns-clause-made : goal.returns-clause-made
returns-clause-made g c =
    if_ok_turned c.rank_side_by_side-ranks.result c.map_err.result _ _ _ c.map_err.ensures.cases c.map_err.ensures.variant
    (λ ranks each files are. ranked_together c.args.rule c.args.trace.now c.args.k c.in_ok-trace.trace c.args.first.now files c.args.layouts.now ranks.items
    c.in_ok-trace.ensures.exact c.requires.same_spaces are each)
    c.rank_side_by_side-ranks.ensures

use Rattle.waff_tool.proofs.ResultLemmas.{if_ok_turned}
use Rattle.waff_tool.proofs.ranks.rank.Goals as goal

pub returns-in-Ok-clause-made : goal.returns-in-Ok-clause-made
returns-in-Ok-clause-made g c =
    if_ok_turned c.rank_assigned-ranked.result c.map_err.result _ _ _ c.map_err.ensures.cases c.map_err.ensures.variant
    (λ ranked made file is_layout. made file c.args.trace.now is_layout c.in-Ok.ensures.exact)
    c.rank_assigned-ranked.ensures

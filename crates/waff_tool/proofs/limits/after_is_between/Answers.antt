use Rattle.waff_tool.proofs.LimitsTexts.{after_is_between}
use Rattle.waff_tool.proofs.limits.after_is_between.Goals as goal

pub returns : goal.returns
returns c = after_is_between c.after_is_not_below.ensures c.no_lists_add_nothing.ensures

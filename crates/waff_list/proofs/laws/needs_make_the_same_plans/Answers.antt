use Rattle.waff_list.proofs.RuleLemmas.{rule_over_pairs}
use Rattle.waff_list.proofs.laws.needs_make_the_same_plans.Goals as goal

pub returns : goal.returns
returns c = rule_over_pairs

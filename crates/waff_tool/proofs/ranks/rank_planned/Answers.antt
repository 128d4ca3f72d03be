use Rattle.waff_tool.proofs.CertificateLemmas.{as_many}
use Rattle.waff_tool.proofs.ranks.rank_planned.Goals as goal

pub invariant_of-planned : goal.invariant_of-planned
invariant_of-planned c = record {
  version = c.in_ok-plan.ensures.version;
  timings = c.in_ok-plan.ensures.timings;
  lengths = as_many c.args.case.now.trace.now.messages _ _ c.in_ok-plan.ensures.timings c.args.case.now.lengths;
}

pub list_figures_for-listed-requires : goal.list_figures_for-listed-requires
list_figures_for-listed-requires c = record { least = c.in_ok-plan.ensures.least }

use Rattle.waff_list.proofs.list.list_plan_by.Goals as goal

pub plan_served-requires : goal.plan_served-requires
plan_served-requires c = record {
  workers = c.requires.workers;
  serves = (c.requires.lengths, c.len-needs.ensures.lists, c.requires.earlier_version);
  fresh = tt;
}

use Rattle.waff_record.proofs.Rows.{as_many, obeys_apart}
use Rattle.waff_record.proofs.told.chain_of.Goals as goal

pub started_chain-requires : goal.started_chain-requires
started_chain-requires c =
    let told = c.args.told.now in
    let earlier = c.len-messages.ensures.table.timings.earlier in
    record {
      lengths = as_many told.run told.plan.now c.requires.told.ran c.requires.told.plan earlier;
      known = told.run.case.known;
      apart = λ third. obeys_apart told.run told.plan.now c.requires.told.ran c.requires.told.plan earlier;
    }

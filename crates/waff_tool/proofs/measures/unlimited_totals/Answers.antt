use Rattle.waff_tool.proofs.measures.unlimited_totals.Goals as goal

pub returns : goal.returns
returns c =
    let found = c.in_ok-certified.certified in
    let is = c.in_ok-certified.ensures in
    record {
      starts = found.plan.starts;
      chain = found.chain.messages;
      certified = is.certified;
      told = rw (c.messages.ensures, is.timings) at c.totals-totals.ensures.totals;
    }

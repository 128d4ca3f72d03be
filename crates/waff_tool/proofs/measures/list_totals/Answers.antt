use Rattle.waff_tool.proofs.measures.list_totals.Goals as goal

pub returns : goal.returns
returns c =
    let found = c.in_ok-bounded.bounded in
    let is = c.in_ok-bounded.ensures in
    let totals = rw (c.number.ensures.number, c.plan-listed.ensures.plan, c.messages.ensures, is.timings) at c.totals-totals.ensures.totals in
    record { starts = found.made.plan.starts; chain = found.chain.messages; bounded = is.bounded; told = totals }

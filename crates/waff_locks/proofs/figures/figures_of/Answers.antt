use Rattle.waff_locks.proofs.figures.figures_of.Goals as goal

pub returns : goal.returns
returns c =
    let told = c.in_ok-told.ensures in
    let taken = c.count_taken-taken.ensures in
    record {
      starts = told.starts;
      least = told.least;
      tree = told.tree;
      locks = told.locks;
      order = told.order;
      plan = c.in_ok-plan.ensures;
      total = told.total;
      messages = taken.messages;
      alone = taken.alone;
      shared = taken.shared;
    }

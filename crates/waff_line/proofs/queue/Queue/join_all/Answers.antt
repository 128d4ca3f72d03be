use Rattle.waff_line.proofs.queue.Queue.join_all.Goals as goal

pub returns-then-not-branch-clause-none : goal.returns-then-not-branch-clause-none
returns-then-not-branch-clause-none c = c.in_ok-join.ensures.none c.if-not-branch.true

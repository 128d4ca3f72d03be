use Rattle.std.proofs.Common.{rules}
use Rattle.waff_plan_text.proofs.writing.push_told.Goals as goal

pub returns-in-Workers : goal.returns-in-Workers
returns-in-Workers c = rw c.in-Workers.is (search rules)

pub returns-in-Total : goal.returns-in-Total
returns-in-Total c = rw c.in-Total.is (search rules)

pub returns-in-Length : goal.returns-in-Length
returns-in-Length c = rw c.in-Length.is (search rules)

pub returns-in-Chain : goal.returns-in-Chain
returns-in-Chain c = rw c.in-Chain.is (search rules)

pub returns-in-Release : goal.returns-in-Release
returns-in-Release c = rw c.in-Release.is (search rules)

pub returns-in-Cost : goal.returns-in-Cost
returns-in-Cost c = rw c.in-Cost.is (search rules)

pub returns-in-Bound : goal.returns-in-Bound
returns-in-Bound c = rw c.in-Bound.is (search rules)

use Rattle.std.proofs.Common.{arith}
use Rattle.waff_plan.proofs.table.Table.new.Goals as goal

pub returns-clause-table : goal.returns-clause-table
returns-clause-table c = λ finish. record {
  numbers = λ i there. absurd (omega (arith, there.1));
  places = c.in_ok-new.ensures.table c.spans.result.now c.args.assigned.now finish;
  locks = c.in_ok-new-2.ensures.table c.args.assigned.now finish;
}

use Rattle.std.proofs.Common.{◌≡◌, ◌-◌, ◌*◌, ◌^◌, ◌≤◌, count_by, sum_by, take}
use Rattle.waff_locks.specs.Sets.{alone_uses, shared_uses, uses_some}
use Rattle.waff_locks.proofs.figures.count_taken.Given as goal

abbrev pub invariant-loop-n : goal.invariant-loop-n
invariant-loop-n l = record {
  messages : l.messages ≡ count_by uses_some (take (l.n - 1) l.assigned);
  alone : l.alone ≡ sum_by alone_uses (take (l.n - 1) l.assigned);
  shared : l.shared ≡ sum_by shared_uses (take (l.n - 1) l.assigned);
  few_messages : l.messages ≤ l.n - 1;
  few_alone : l.alone ≤ 2 ^ 32 * (l.n - 1);
  few_shared : l.shared ≤ 2 ^ 32 * (l.n - 1);
}

use Rattle.std.proofs.Common.{◌≡◌, ◌+◌, ◌-◌, ◌≤◌, ◌++◌, length, take}
use Rattle.waff_read.specs.Ranges.{ops_on}
use Rattle.waff_read.proofs.OpsLaws.{ops_from}
use Rattle.waff_read.proofs.ops.keep_range.Given as goal

-- what is kept of those so far and the ones to come is what is kept of all
abbrev pub invariant-loop-index : goal.invariant-loop-index
invariant-loop-index l = record {
  few : length l.list ≤ l.most + 1;
  kept : take (l.most + 1) (l.list ++ ops_from l.range.deed l.range.first.space l.index (l.range.last + 1 - l.index))
      ≡ take (l.most + 1) (l.initial.list ++ ops_on l.range);
}

abbrev pub decreases-loop-index : goal.decreases-loop-index
decreases-loop-index l = l.range.last + 1 - l.index

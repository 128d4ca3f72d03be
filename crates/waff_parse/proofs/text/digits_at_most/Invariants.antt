use Rattle.std.proofs.Common.{length, ◌-◌, ◌≡◌, ◌≤◌, take}
use Rattle.waff_parse.proofs.text.digits_at_most.Given as goal

-- the digits so far are the same
abbrev pub invariant-loop-place : goal.invariant-loop-place
invariant-loop-place l = record {
  within : l.place ≤ length l.first;
  same : take l.place l.first ≡ take l.place l.second;
}

abbrev pub decreases-loop-place : goal.decreases-loop-place
decreases-loop-place l = length l.first - l.place

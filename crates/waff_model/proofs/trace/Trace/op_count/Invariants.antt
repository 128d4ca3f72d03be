use Rattle.std.proofs.Common.{◌≡◌, ◌≤◌, ◌-◌, length, take}
use Rattle.waff_model.specs.Messages.{ops_in}
use Rattle.waff_model.proofs.trace.Trace.op_count.Given as goal

-- the operations so far
abbrev pub invariant-loop-place : goal.invariant-loop-place
invariant-loop-place l = record {
  within : l.place ≤ length l.self.messages;
  counted : l.count ≡ ops_in (take l.place l.self.messages);
}

abbrev pub decreases-loop-place : goal.decreases-loop-place
decreases-loop-place l = length l.self.messages - l.place

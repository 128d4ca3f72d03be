use Rattle.std.proofs.Common.{◌≡◌, ◌+◌, ◌-◌, ◌<◌, ℕ, None, get_or, length, vec_capacity}
use Rattle.waff_assign.specs.Lowest.{IsSomeLowestOf}
use Rattle.waff_assign.proofs.assignment.assign.Given as goal

abbrev pub invariant-loop-n : goal.invariant-loop-n
invariant-loop-n l = record {
  count : length l.affinities.items ≡ l.n - 1;
  each : (k : ℕ) → k < length l.affinities.items → IsSomeLowestOf l.layout l.trace.messages (k + 1) (get_or l.affinities.items k None);
  room : vec_capacity l.affinities ≡ length l.trace.messages;
}

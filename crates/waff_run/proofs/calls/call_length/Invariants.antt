use Rattle.std.proofs.Common.{◌≡◌, ℕ, ◌+◌, ◌-◌, ◌*◌, ◌<◌}
use Rattle.waff_run.specs.Calls.{GoesWith, first_cell}
use Rattle.waff_run.specs.Places.{spot_of}
use Rattle.waff_run.proofs.calls.call_length.Given as goal

abbrev pub invariant-loop-next : goal.invariant-loop-next
invariant-loop-next l = record {
  each : (k : ℕ) → 0 < k → k < l.next - l.from → GoesWith l.places l.ops l.from k;
  end : l.end ≡ (spot_of l.places (first_cell l.first)).at + (l.next - l.from) * l.places.bytes;
}

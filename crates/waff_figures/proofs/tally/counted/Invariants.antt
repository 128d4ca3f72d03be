use Rattle.std.proofs.Common.{◌≡◌, ◌-◌, ◌*◌, ◌^◌, ◌≤◌, [], length, All}
use Rattle.std.specs.List.{range_with_len}
use Rattle.waff_plan.specs.Timing.{work_of}
use Rattle.waff_figures.proofs.TallyLemmas.{AreTallies}
use Rattle.waff_figures.proofs.tally.counted.Given as goal

abbrev pub invariant-loop-n : goal.invariant-loop-n
invariant-loop-n l = record {
  count : length l.tallies.items ≡ l.grouped.count;
  are : AreTallies (work_of l.grouped.plan.now.timings) l.grouped.groups.now (range_with_len 1 (l.n - 1)) [] l.tallies.items;
  few : All (λ tally. tally.messages ≤ l.n - 1) l.tallies.items;
  small : All (λ tally. tally.cost ≤ 2 ^ 32 * (l.n - 1)) l.tallies.items;
}

use Rattle.std.proofs.Common.{◌≡◌, ◌*◌, ◌^◌, ◌≤◌, length, take, All}
use Rattle.waff_plan.specs.Timing.{work_of}
use Rattle.waff_plan.specs.Work.{numbers}
use Rattle.waff_figures.proofs.TallyLemmas.{AreTallies}
use Rattle.waff_figures.proofs.tally.count_chain.Given as goal

abbrev pub invariant-loop-message : goal.invariant-loop-message
invariant-loop-message l = record {
  count : length l.tallies.items ≡ l.grouped.count;
  are : AreTallies (work_of l.grouped.plan.now.timings) l.grouped.groups.now (numbers (work_of l.grouped.plan.now.timings)) (take l.message-index l.chain) l.tallies.items;
  small : All (λ tally. tally.chain ≤ 2 ^ 32 * l.message-index) l.tallies.items;
}

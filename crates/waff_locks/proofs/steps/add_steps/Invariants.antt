use Rattle.std.proofs.Common.{◌≡◌, ◌-◌, ◌++◌, length, List}
use Rattle.waff_locks.specs.declared.figures.SpaceFigures.{SpaceFigures}
use Rattle.waff_locks.proofs.Stepping.{AreBehind}
use Rattle.waff_locks.proofs.steps.add_steps.Given as goal

abbrev pub invariant-loop : goal.invariant-loop
invariant-loop g l = record {
  count : length l.lockings.items ≡ length l.asked.layout.now.spaces;
  taken : (more : List SpaceFigures) × (l.steps.items ≡ l.initial.steps.items ++ more)
      × AreBehind l.asked.wanted.now l.asked.layout.now l.asked.trace.now l.fn.most l.fn.start.items (l.fn.most - l.counter) l.lockings.items more;
}

use Rattle.std.proofs.Common.{◌≡◌, ◌-◌, All, length}
use Rattle.waff_plan.specs.Timing.{start_of}
use Rattle.waff_plan.specs.Work.{IsAmongFirst}
use Rattle.waff_draw.specs.Loose.{loose_entries}
use Rattle.waff_draw.proofs.loose.by_start.Given as goal

abbrev pub invariant-loop-n : goal.invariant-loop-n
invariant-loop-n l = record {
  entries : l.found.entries ≡ loose_entries l.case.assigned.now (start_of l.plan.starts) (l.n - 1);
  known : All (λ e. IsAmongFirst (length l.plan.timings) e.1) l.found.entries;
}

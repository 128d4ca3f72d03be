use Rattle.std.proofs.Common.{map, take}
use Rattle.waff_plan.specs.Work.{Await}
use Rattle.waff_waits.specs.Waits.{Enters}
use Rattle.waff_plan.proofs.awaiting.enter_all.Given as goal

-- it waits for the first of them
abbrev pub invariant-loop-k : goal.invariant-loop-k
invariant-loop-k l = record {
  entered : Enters l.initial.waits l.m (map (λ (a : Await). a.message) (take l.k l.after)) l.waits;
}

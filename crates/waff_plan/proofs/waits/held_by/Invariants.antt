use Rattle.std.proofs.Common.{◌≡◌, drop}
use Rattle.waff_plan.specs.Links.{held_by}
use Rattle.waff_plan.specs.Timetable.{starts_in, work_in}
use Rattle.waff_plan.specs.Work.{finish_of}
use Rattle.waff_plan.proofs.waits.held_by.Given as goal

-- what holds it back longest, by those that stand behind
abbrev pub invariant-loop-k : goal.invariant-loop-k
invariant-loop-k l = record {
  held : l.held ≡ held_by (finish_of (work_in l.plan) (starts_in l.plan)) l.fn.latest (drop l.k l.after);
}

use Rattle.std.proofs.Common.{◌-◌}
use Rattle.waff_plan.specs.Work.{finish_of, IsAmongFirst}
use Rattle.waff_plan.specs.Latest.{IsFound}
use Rattle.waff_plan.specs.Timetable.{work_in, starts_in}
use Rattle.waff_plan.proofs.printed.last.Given as goal

abbrev pub invariant-loop-m : goal.invariant-loop-m
invariant-loop-m l =
    IsFound (λ i. IsAmongFirst (l.m - 1) i × Unit {0}) (finish_of (work_in l.plan) (starts_in l.plan)) l.last

use Rattle.std.proofs.Common.{◌≡◌, ◌-◌}
use Rattle.waff_plan.specs.Timetable.{starts_in, work_in}
use Rattle.waff_figures.proofs.WaitLemmas.{waits_upto}
use Rattle.waff_figures.proofs.waits.waits.Given as goal

abbrev pub invariant-loop-m : goal.invariant-loop-m
invariant-loop-m l = l.waits.items ≡ waits_upto (work_in l.planned.plan.now) (starts_in l.planned.plan.now) l.links.items l.locks.items (l.m - 1)
